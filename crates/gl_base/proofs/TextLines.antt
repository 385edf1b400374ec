-- Texts that end their lines.
use Rattle.std.proofs.Common.{◌≡◌, ℕ, true, List, [], ◌∷◌, ◌++◌, refl}
use Rattle.gl_base.specs.TextLines.{ends_lines, text_line}

-- a line does
pub line_ends : (text : List ℕ) → ends_lines (text_line text) ≡ true
line_ends [] = refl
line_ends (byte ∷ []) = refl
line_ends (byte ∷ next ∷ rest) = line_ends (next ∷ rest)

-- and so do two texts in a row that do
pub lines_end : (first second : List ℕ) → ends_lines first ≡ true → ends_lines second ≡ true → ends_lines (first ++ second) ≡ true
lines_end [] second h k = k
lines_end (byte ∷ []) [] h k = h
lines_end (byte ∷ []) (next ∷ rest) h k = k
lines_end (byte ∷ next ∷ rest) second h k = lines_end (next ∷ rest) second h k
