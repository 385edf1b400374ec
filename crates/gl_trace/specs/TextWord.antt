-- Names, labels, paths, values and words as one word of a line. This project's choice.
use Rattle.std.specs.Prelude.{ℕ, Bool, not, ◌==◌, ◌&&◌, nat_le, if◌then◌else◌, List, [], ◌∷◌, ◌++◌, codes}
use Rattle.std.specs.List.{list_all}
use Rattle.std.specs.Str.{bytes_eq}
use Rattle.gl_base.specs.BytesText.{pair}
use Rattle.gl_base.specs.Words.{is_nonempty}

-- a byte that is written as it is: from `!` (33) to `~` (126), except for `\` (92)
abbrev pub is_plain_byte : ℕ → Bool
is_plain_byte byte = nat_le 33 byte && (nat_le byte 126 && not (byte == 92))

-- a text that is written as it is: at least one byte, not `-`, and each byte plain
abbrev pub is_plain : List ℕ → Bool
is_plain text = is_nonempty text && (not (bytes_eq text (codes "-")) && list_all is_plain_byte text)

-- the bytes as lower-case hexadecimal pairs
abbrev pub pairs_text : List ℕ → List ℕ
pairs_text [] = []
pairs_text (byte ∷ bytes) = pair byte ++ pairs_text bytes

-- the word of a text: as it is, or `\` and its pairs
abbrev pub text_word : List ℕ → List ℕ
text_word text = if is_plain text then text else 92 ∷ pairs_text text
