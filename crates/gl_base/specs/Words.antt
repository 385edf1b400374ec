-- How a text is divided into lines and words, each with its place in the text. This project's choice.
use Rattle.std.specs.Prelude.{ℕ, ◌+◌, ◌-◌, Bool, true, false, ◌==◌, if◌then◌else◌, List, [], ◌∷◌, filter, length, Option, None, Some}

-- a stretch of a text: where it begins, and its bytes
pub record Span : Type 0 where
  pub at : ℕ
  pub text : List ℕ

abbrev pub span : ℕ → List ℕ → Span
span at text = record { at = at; text = text }

-- the place behind it
abbrev pub end_of : Span → ℕ
end_of s = s.at + length s.text

abbrev pub is_nonempty : List ℕ → Bool
is_nonempty [] = false
is_nonempty (byte ∷ bytes) = true

abbrev pub has_text : Span → Bool
has_text s = is_nonempty s.text

-- the byte at the front of the first piece
abbrev pub onto_first : ℕ → List (List ℕ) → List (List ℕ)
onto_first byte [] = (byte ∷ []) ∷ []
onto_first byte (piece ∷ pieces) = (byte ∷ piece) ∷ pieces

-- the pieces between the bytes that equal cut: one more than there are such bytes
abbrev pub pieces : ℕ → List ℕ → List (List ℕ)
pieces cut [] = [] ∷ []
pieces cut (byte ∷ bytes) = if byte == cut then [] ∷ pieces cut bytes else onto_first byte (pieces cut bytes)

-- the pieces of what is left, if anything is
abbrev pub pieces_left : ℕ → Option (List ℕ) → List (List ℕ)
pieces_left cut None = []
pieces_left cut (Some bytes) = pieces cut bytes

-- pieces that stand one after the other from a place on, with one byte between them
abbrev pub placed : ℕ → List (List ℕ) → List Span
placed at [] = []
placed at (text ∷ texts) = span at text ∷ placed (at + length text + 1) texts

-- the lines of a text are divided by the byte 0x0A, and the last line needs none
abbrev pub lines_of : List ℕ → List Span
lines_of bytes = placed 0 (pieces 10 bytes)

-- the words of a line that begins at a place are divided by one or more blanks, and blanks may stand at either end
abbrev pub words_at : ℕ → List ℕ → List Span
words_at at line = filter has_text (placed at (pieces 32 line))

-- the text of the word of a number, counted from 0; none where it is missing
abbrev pub text_at : ℕ → List Span → List ℕ
text_at i [] = []
text_at i (word ∷ words) = if i == 0 then word.text else text_at (i - 1) words
