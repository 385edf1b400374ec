-- Numbers as decimal text. The one spelling of a number is std's `decimal`: its digits without leading zeros.
-- What a text of a session may be read as is this project's choice.
use Rattle.std.specs.Prelude.{ℕ, ◌+◌, ◌-◌, ◌*◌, ◌^◌, Bool, ◌==◌, ◌&&◌, nat_lt, nat_le, if◌then◌else◌, List, [], ◌∷◌, length, slice_index, Option, Some, None}
use Rattle.std.specs.Str.{all_ascii_digits}
use Rattle.gl_base.specs.declared.limits.TheConstants.{DIGITS_MAX}
pub use Rattle.std.specs.Fmt.{decimal}

-- the number that digits write behind those of n; 48 is `0`
abbrev pub value_after : ℕ → List ℕ → ℕ
value_after n [] = n
value_after n (digit ∷ digits) = value_after (10 * n + (digit - 48)) digits

-- the number that digits write
abbrev pub text_value : List ℕ → ℕ
text_value digits = value_after 0 digits

-- decimal digits alone, and their number fits in 64 bits
abbrev pub is_fitting : List ℕ → Bool
is_fitting text = all_ascii_digits text && nat_lt (text_value text) (2 ^ 64)

-- a number: 1 to 20 decimal digits, which may begin with zeros, whose value fits in 64 bits
abbrev pub is_number : List ℕ → Bool
is_number text = nat_lt 0 (length text) && nat_le (length text) DIGITS_MAX && is_fitting text

-- the number that a text is, if it is one
abbrev pub number_of_text : List ℕ → Option ℕ
number_of_text text = if is_number text then Some (text_value text) else None

-- a text begins with a zero, and has more digits behind it
abbrev pub has_leading_zero : List ℕ → Bool
has_leading_zero text = nat_lt 1 (length text) && (slice_index text 0 == 48)

-- the number that a text without a leading zero is, if it is one
abbrev pub plain_number_of_text : List ℕ → Option ℕ
plain_number_of_text text = if has_leading_zero text then None else number_of_text text
