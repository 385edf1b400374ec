-- Bytes as text. A word of a session that is read as bytes is called a piece. This project's choice.
use Rattle.std.specs.Prelude.{ℕ, ◌+◌, ◌-◌, ◌*◌, ◌/◌, ◌%◌, Bool, true, false, ◌==◌, ◌&&◌, nat_le, nat_lt, if◌then◌else◌, List, [], ◌∷◌, ◌++◌, length, take, drop, replicate, slice_index, Option, Some, None, option_map, codes}
use Rattle.std.specs.List.{list_all}
use Rattle.std.specs.Char.{is_ascii_hexdigit}
use Rattle.gl_base.specs.Decimal.{decimal, plain_number_of_text}

-- the value of a hexadecimal digit: 0 to 9, A to F, a to f
abbrev pub digit_value : ℕ → ℕ
digit_value byte = if nat_le byte 57 then byte - 48 else (if nat_le byte 70 then byte - 55 else byte - 87)

-- the byte that two digits write
abbrev pub pair_value : ℕ → ℕ → ℕ
pair_value high low = (16 * digit_value high + digit_value low) % 256

-- hexadecimal pairs
abbrev pub is_pairs : List ℕ → Bool
is_pairs word = nat_lt 0 (length word) && ((length word % 2 == 0) && list_all is_ascii_hexdigit word)

-- the bytes that pairs write
abbrev pub pairs_bytes : List ℕ → List ℕ
pairs_bytes [] = []
pairs_bytes (high ∷ []) = []
pairs_bytes (high ∷ low ∷ digits) = pair_value high low ∷ pairs_bytes digits

-- one pair, a star (42), and at least one byte more
abbrev pub is_times : List ℕ → Bool
is_times word = nat_lt 3 (length word) && (is_pairs (take 2 word) && (slice_index word 2 == 42))

-- from 1 to 1024
abbrev pub times_within : Option ℕ → Option ℕ
times_within None = None
times_within (Some n) = if nat_le 1 n && nat_le n 1024 then Some n else None

-- the N of `HH*N`, which has no leading zero, if a word is one
abbrev pub times_of : List ℕ → Option ℕ
times_of word = if is_times word then times_within (plain_number_of_text (drop 3 word)) else None

-- byte N times
abbrev pub times_bytes : ℕ → Option ℕ → Option (List ℕ)
times_bytes byte None = None
times_bytes byte (Some n) = Some (replicate n byte)

-- the bytes of a piece, if a word is one: hexadecimal pairs in either case, or `HH*N`, which means that byte N times
abbrev pub piece_of : List ℕ → Option (List ℕ)
piece_of word =
    if is_pairs word then Some (pairs_bytes word)
    else times_bytes (pair_value (slice_index word 0) (slice_index word 1)) (times_of word)

-- how many bytes a piece has, if a word is one
abbrev pub piece_size : List ℕ → Option ℕ
piece_size word = option_map length (piece_of word)

-- the bytes of a piece; none where a word is no piece
abbrev pub bytes_or_none : Option (List ℕ) → List ℕ
bytes_or_none None = []
bytes_or_none (Some bytes) = bytes

abbrev pub piece_bytes : List ℕ → List ℕ
piece_bytes word = bytes_or_none (piece_of word)

-- how many zeros stand at the front
abbrev pub zero_run : List ℕ → ℕ
zero_run [] = 0
zero_run (byte ∷ bytes) = if byte == 0 then zero_run bytes + 1 else 0

-- a run of at least eight zeros stands at the front
abbrev pub has_long_run : List ℕ → Bool
has_long_run bytes = nat_le 8 (zero_run bytes)

-- a lower-case digit
abbrev pub hex_digit : ℕ → ℕ
hex_digit n = if nat_lt n 10 then n + 48 else n + 87

-- a pair of them
abbrev pub pair : ℕ → List ℕ
pair byte = hex_digit (byte / 16) ∷ hex_digit (byte % 16) ∷ []

abbrev pub blank_before : List ℕ → List ℕ
blank_before [] = []
blank_before (byte ∷ bytes) = codes " "

abbrev pub blank_if : Bool → List ℕ
blank_if true = codes " "
blank_if false = []

abbrev pub run_word : ℕ → List ℕ
run_word count = codes "00*" ++ decimal count

-- The words of bytes. A long run is told at its first byte, and its others are passed over; every other byte is a pair, with a blank before a long run.
abbrev pub byte_words : Bool → List ℕ → List ℕ
byte_words is_told [] = []
byte_words is_told (byte ∷ bytes) =
    if is_told && byte == 0 then byte_words true bytes
    else if has_long_run (byte ∷ bytes) then
    run_word (zero_run (byte ∷ bytes)) ++ (blank_before (drop (zero_run (byte ∷ bytes)) (byte ∷ bytes)) ++ byte_words true bytes)
    else pair byte ++ (blank_if (has_long_run bytes) ++ byte_words false bytes)

-- The one spelling of bytes that is printed: each maximal run of at least eight zeros is the word `00*N`, and the bytes between two such runs are one word of lower-case pairs; no bytes are `-`.
abbrev pub bytes_text : List ℕ → List ℕ
bytes_text [] = codes "-"
bytes_text (byte ∷ bytes) = byte_words false (byte ∷ bytes)
