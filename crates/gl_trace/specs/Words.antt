-- Words of a line, and hexadecimal numbers in them. This project's choice.
use Rattle.std.specs.Prelude.{ℕ, ◌/◌, ◌%◌, ◌^◌, List, [], ◌∷◌, ◌++◌, codes}
use Rattle.gl_base.specs.BytesText.{pair}

-- words with a blank (32) after each, and then a text
abbrev pub before : List (List ℕ) → List ℕ → List ℕ
before [] text = text
before (word ∷ words) text = word ++ (32 ∷ before words text)

-- 4, 8 and 16 lower-case hexadecimal digits of a number
abbrev pub hex4 : ℕ → List ℕ
hex4 n = pair (n / 256) ++ pair (n % 256)

abbrev pub hex8 : ℕ → List ℕ
hex8 n = hex4 (n / 65536) ++ hex4 (n % 65536)

abbrev pub hex16 : ℕ → List ℕ
hex16 n = hex8 (n / 2 ^ 32) ++ hex8 (n % 2 ^ 32)

-- a number of 32 bits as `0x` and 8 digits, and one of 64 bits as `0x` and 16 digits
abbrev pub hex_word : ℕ → List ℕ
hex_word n = codes "0x" ++ hex8 n

abbrev pub long_hex_word : ℕ → List ℕ
long_hex_word n = codes "0x" ++ hex16 n
