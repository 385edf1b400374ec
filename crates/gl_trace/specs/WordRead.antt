-- What single words are read as: only in the one spelling that is written. This project's choice.
use Rattle.std.specs.Prelude.{ℕ, ◌+◌, ◌-◌, ◌*◌, ◌^◌, Bool, true, false, ◌==◌, ◌&&◌, nat_le, nat_lt, if◌then◌else◌, List, [], ◌∷◌, length, drop, nat_eq, Option, Some, None, codes}
use Rattle.std.specs.List.{starts_with}
use Rattle.std.specs.Str.{bytes_eq}
use Rattle.gl_base.specs.Decimal.{plain_number_of_text}
use Rattle.gl_base.specs.Name.{name_of}
use Rattle.gl_base.specs.Path.{path_of}
use Rattle.gl_base.specs.declared.kind.Kind.{Kind}
use Rattle.gl_base.specs.declared.kind.Kind.TheVariants.{Simulated, Remote}
use Rattle.gl_trace.specs.TextWord.{is_plain}

-- what stands after a text, if it is at the front
abbrev pub stripped : List ℕ → List ℕ → Option (List ℕ)
stripped front text = if starts_with nat_eq text front then Some (drop (length front) text) else None

-- a number below another one
abbrev pub below : ℕ → Option ℕ → Option ℕ
below n None = None
below n (Some k) = if nat_lt k n then Some k else None

abbrev pub number_below : ℕ → List ℕ → Option ℕ
number_below n word = below n (plain_number_of_text word)

-- up, by 1
abbrev pub up_by : Option ℕ → Option Bool
up_by None = None
up_by (Some n) = Some (n == 1)

abbrev pub up_of : List ℕ → Option Bool
up_of word = up_by (number_below 2 word)

-- one of two words
abbrev pub choice : {A : Type 0} → List ℕ → A → List ℕ → A → List ℕ → Option A
choice one a two b word = if bytes_eq word one then Some a else if bytes_eq word two then Some b else None

abbrev pub kind_of : List ℕ → Option Kind
kind_of word = choice (codes "sim") Simulated (codes "remote") Remote word

abbrev pub last_of : List ℕ → Option Bool
last_of word = choice (codes "begin") false (codes "finish") true word

abbrev pub poll_of : List ℕ → Option Bool
poll_of word = choice (codes "call") false (codes "poll") true word

-- a place, or all by `-`
abbrev pub one_place : Option ℕ → Option (Option ℕ)
one_place None = None
one_place (Some place) = Some (Some place)

abbrev pub place_of : List ℕ → Option (Option ℕ)
place_of word = if bytes_eq word (codes "-") then Some None else one_place (number_below (2 ^ 8) word)

-- a lower-case hexadecimal digit
abbrev pub hex_value : ℕ → Option ℕ
hex_value byte =
    if nat_le 48 byte && nat_le byte 57 then Some (byte - 48)
    else if nat_le 97 byte && nat_le byte 102 then Some (byte - 87) else None

abbrev pub pair_byte : Option ℕ → Option ℕ → Option ℕ
pair_byte None low = None
pair_byte (Some h) None = None
pair_byte (Some h) (Some l) = Some (16 * h + l)

abbrev pub onto_bytes : Option ℕ → Option (List ℕ) → Option (List ℕ)
onto_bytes None bytes = None
onto_bytes (Some byte) None = None
onto_bytes (Some byte) (Some bytes) = Some (byte ∷ bytes)

-- the bytes of lower-case pairs
abbrev pub pairs_of : List ℕ → Option (List ℕ)
pairs_of [] = Some []
pairs_of (high ∷ []) = None
pairs_of (high ∷ low ∷ digits) = onto_bytes (pair_byte (hex_value high) (hex_value low)) (pairs_of digits)

-- at most 127 bytes
abbrev pub short : Option (List ℕ) → Option (List ℕ)
short None = None
short (Some bytes) = if nat_le (length bytes) 127 then Some bytes else None

-- the number of four bytes, the highest first, and of eight
abbrev pub number4 : ℕ → ℕ → ℕ → ℕ → ℕ
number4 a b c d = ((a * 256 + b) * 256 + c) * 256 + d

abbrev pub four_bytes : List ℕ → Option ℕ
four_bytes (a ∷ b ∷ c ∷ d ∷ []) = Some (number4 a b c d)
four_bytes _ = None

abbrev pub eight_bytes : List ℕ → Option ℕ
eight_bytes (a ∷ b ∷ c ∷ d ∷ e ∷ f ∷ g ∷ h ∷ []) = Some (number4 a b c d * 4294967296 + number4 e f g h)
eight_bytes _ = None

abbrev pub four_in : Option (List ℕ) → Option ℕ
four_in None = None
four_in (Some bytes) = four_bytes bytes

abbrev pub eight_in : Option (List ℕ) → Option ℕ
eight_in None = None
eight_in (Some bytes) = eight_bytes bytes

abbrev pub four_behind : Option (List ℕ) → Option ℕ
four_behind None = None
four_behind (Some digits) = four_in (short (pairs_of digits))

abbrev pub eight_behind : Option (List ℕ) → Option ℕ
eight_behind None = None
eight_behind (Some digits) = eight_in (short (pairs_of digits))

-- `0x` and 8 digits, and `0x` and 16 digits
abbrev pub hex_of : List ℕ → Option ℕ
hex_of word = four_behind (stripped (codes "0x") word)

abbrev pub long_hex_of : List ℕ → Option ℕ
long_hex_of word = eight_behind (stripped (codes "0x") word)

-- what a driver answered
abbrev pub one_answer : Option ℕ → Option (Option ℕ)
one_answer None = None
one_answer (Some bits) = Some (Some bits)

abbrev pub answer_of : List ℕ → Option (Option ℕ)
answer_of word = if bytes_eq word (codes "fault") then Some None else one_answer (long_hex_of word)

-- a text that is written as it is, or not
abbrev pub if_plain : List ℕ → Option (List ℕ)
if_plain text = if is_plain text then Some text else None

abbrev pub unless_plain : Option (List ℕ) → Option (List ℕ)
unless_plain None = None
unless_plain (Some text) = if is_plain text then None else Some text

-- the text of a word
abbrev pub text_in : List ℕ → Option (List ℕ) → Option (List ℕ)
text_in word None = if_plain word
text_in word (Some pairs) = unless_plain (short (pairs_of pairs))

abbrev pub text_of : List ℕ → Option (List ℕ)
text_of word = text_in word (stripped (92 ∷ []) word)

abbrev pub as_name : Option (List ℕ) → Option (List ℕ)
as_name None = None
as_name (Some text) = name_of text

abbrev pub as_path : Option (List ℕ) → Option (List ℕ)
as_path None = None
as_path (Some text) = path_of text

abbrev pub name_word : List ℕ → Option (List ℕ)
name_word word = as_name (text_of word)

abbrev pub path_word : List ℕ → Option (List ℕ)
path_word word = as_path (text_of word)
