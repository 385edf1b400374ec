-- The words of a line with their columns. This project's choice.
use Rattle.std.specs.Prelude.{ℕ, List}
use Rattle.gl_base.specs.Words.{Span, words_at}

-- columns are counted from 1
abbrev pub columns : List ℕ → List Span
columns text = words_at 1 text
