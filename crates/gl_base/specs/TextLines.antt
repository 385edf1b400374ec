-- Texts of whole lines. This project's choice.
use Rattle.std.specs.Prelude.{ℕ, ◌==◌, Bool, true, List, [], ◌∷◌, ◌++◌}

-- a line ends with the byte 0x0A
abbrev pub text_line : List ℕ → List ℕ
text_line text = text ++ 10 ∷ []

-- a text is empty, or its last byte is 0x0A
abbrev pub ends_lines : List ℕ → Bool
ends_lines [] = true
ends_lines (byte ∷ []) = byte == 10
ends_lines (byte ∷ next ∷ rest) = ends_lines (next ∷ rest)
