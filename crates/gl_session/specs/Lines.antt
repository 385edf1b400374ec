-- Lines of text. This project's choice.
use Rattle.std.specs.Prelude.{ℕ, List, ◌++◌, codes}
use Rattle.gl_base.specs.Decimal.{decimal}
pub use Rattle.gl_base.specs.TextLines.{text_line}

-- a text and a number
abbrev pub numbered_line : List ℕ → ℕ → List ℕ
numbered_line text number = text_line (text ++ (codes " " ++ decimal number))
