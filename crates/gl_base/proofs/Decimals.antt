-- Numbers and their decimal text.
use Rattle.std.proofs.Common.{◌≡◌, ℕ, zero, suc, ◌+◌, ◌-◌, ◌*◌, ◌^◌, ◌<◌, ◌≤◌, Bool, true, false, cond, ◌&&◌, List, [], ◌∷◌, length, get_or, drop, Some, None, refl, sym, ap, ◌∙◌, arith, rules}
use Rattle.std.specs.Prelude.{◌==◌, nat_lt, nat_le}
use Rattle.std.specs.Char.{is_ascii_digit}
use Rattle.std.specs.Str.{all_ascii_digits}
use Rattle.std.proofs.lemmas.List.{at_drop_more, at_drop_all}
use Rattle.std.proofs.lemmas.Bool.Decides.{nat_tests}
use Rattle.std.proofs.lemmas.Str.Parse.{IsNumeralModel, numerals_by_fold}
use Rattle.std.proofs.lemmas.Fmt.{digits_decimal, digits_value-decimal, decimal-digits_value, decimal_nonempty, length-decimal-le, first_decimal, decimal_digit}
use Rattle.gl_base.specs.Decimal.{decimal, value_after, text_value, is_fitting, is_number, number_of_text, has_leading_zero, plain_number_of_text}

-- digits only make a number greater
value_after-ge : (n : ℕ) (digits : List ℕ) → n ≤ value_after n digits
value_after-ge n [] = omega arith
value_after-ge n (digit ∷ digits) = omega (arith, value_after-ge (10 * n + (digit - 48)) digits)

-- a number that doesn't fit with one digit more doesn't fit with more digits
past_step : (digit rest : Bool) (n m : ℕ) → n ≤ m → (digit && nat_lt n (2 ^ 64)) ≡ false → ((digit && rest) && nat_lt m (2 ^ 64)) ≡ false
past_step false rest n m le e = refl
past_step true false n m le e = refl
past_step true true n m le e = grind (arith, nat_tests)

-- where the step that reads the digit at place i fails, the text is no number that fits
pub not_fitting : (text : List ℕ) (i value d : ℕ) → i < length text → (is_ascii_digit (get_or text i d) && nat_lt (10 * value + (get_or text i d - 48)) (2 ^ 64)) ≡ false → all_ascii_digits (drop i text) ≡ all_ascii_digits text → value_after value (drop i text) ≡ value_after 0 text → is_fitting text ≡ false
not_fitting text i value d lt fails digits same =
    let F : List ℕ → Bool = λ xs. all_ascii_digits xs && nat_lt (value_after value xs) (2 ^ 64) in
    let here : F (drop i text) ≡ is_fitting text = rw (digits, same) in
    let digit = get_or text i d in
    let rest = drop (i + 1) text in
    sym here ∙ at_drop_more F text i d lt ∙ past_step (is_ascii_digit digit) (all_ascii_digits rest) (10 * value + (digit - 48)) (value_after (10 * value + (digit - 48)) rest) (value_after-ge (10 * value + (digit - 48)) rest) fails

pub none_fails : (b : Bool) (n : ℕ) → None ≡ cond b (Some n) None → b ≡ false
none_fails true n e = cc
none_fails false n e = refl

-- all digits were read
pub all_fitting : (text : List ℕ) (i value : ℕ) → length text ≤ i → value < 2 ^ 64 → all_ascii_digits (drop i text) ≡ all_ascii_digits text → value_after value (drop i text) ≡ value_after 0 text → Some value ≡ cond (is_fitting text) (Some (text_value text)) None
all_fitting text i value le small digits same =
    let told : all_ascii_digits text ≡ true = sym digits ∙ at_drop_all all_ascii_digits text i le in
    let is : value_after 0 text ≡ value = sym same ∙ at_drop_all (value_after value) text i le in
    let fits : nat_lt value (2 ^ 64) ≡ true = grind (arith, nat_tests) in
    rw (told, is, fits)

pub own : IsNumeralModel (λ text. all_ascii_digits text ≡ true) (value_after 0)
own = numerals_by_fold _ (search rules) value_after (search rules)

all_four : (a b c d : Bool) → a ≡ true → b ≡ true → c ≡ true → d ≡ true → (a && b && (c && d)) ≡ true
all_four a b c d p q r s = rw (p, q, r, s)

pub is_number-decimal : (n : ℕ) → n < 2 ^ 64 → is_number (decimal n) ≡ true
is_number-decimal n small =
    let there : nat_lt 0 (length (decimal n)) ≡ true = let p = decimal_nonempty n small in grind (arith, nat_tests) in
    let short : nat_le (length (decimal n)) 20 ≡ true = let p : length (decimal n) ≤ 20 = length-decimal-le 20 n (omega arith) (omega arith) small in grind (arith, nat_tests) in
    let is : text_value (decimal n) ≡ n = digits_value-decimal own n small in
    let fits : nat_lt (text_value (decimal n)) (2 ^ 64) ≡ true = grind (arith, nat_tests) in
    all_four _ _ _ _ there short (digits_decimal own n small) fits

pub number_of_text-decimal : (n : ℕ) → n < 2 ^ 64 → number_of_text (decimal n) ≡ Some n
number_of_text-decimal n small = rw (is_number-decimal n small) (ap Some (digits_value-decimal own n small))

second_fails : (a b : Bool) → b ≡ false → (a && b) ≡ false
second_fails true b e = e
second_fails false b e = refl

-- the digits of a number don't begin with a zero, but those of 0
has_leading_zero-decimal : (n : ℕ) → n < 2 ^ 64 → has_leading_zero (decimal n) ≡ false
has_leading_zero-decimal zero small = ap has_leading_zero (decimal_digit 0 (omega arith))
has_leading_zero-decimal (suc n) small =
    let first : 48 < get_or (decimal (suc n)) 0 0 = first_decimal (suc n) (omega arith) small in
    let other : (get_or (decimal (suc n)) 0 0 == 48) ≡ false = grind (arith, nat_tests) in
    second_fails (nat_lt 1 (length (decimal (suc n)))) (get_or (decimal (suc n)) 0 0 == 48) other

pub plain_number_of_text-decimal : (n : ℕ) → n < 2 ^ 64 → plain_number_of_text (decimal n) ≡ Some n
plain_number_of_text-decimal n small = rw (has_leading_zero-decimal n small) (number_of_text-decimal n small)

plain_parts : (zeros number : Bool) (value n : ℕ) → cond zeros None (cond number (Some value) None) ≡ Some n → (zeros ≡ false) × (number ≡ true) × (value ≡ n)
plain_parts true number value n e = cc
plain_parts false true value n e = (refl, refl, cc)
plain_parts false false value n e = cc

four_parts : (a b c d : Bool) → (a && b && (c && d)) ≡ true → (a ≡ true) × (b ≡ true) × (c ≡ true) × (d ≡ true)
four_parts true true true true e = (refl, refl, refl, refl)
four_parts true true true false e = cc
four_parts true true false d e = cc
four_parts true false c d e = cc
four_parts false b c d e = cc

alone : (text : List ℕ) → nat_lt 0 (length text) ≡ true → has_leading_zero text ≡ false → get_or text 0 0 ≡ 48 → length text ≡ 1
alone text there zeros first = grind (arith, nat_tests)

-- a text without a leading zero is the digits of its number
pub decimal-plain_number : (text : List ℕ) (n : ℕ) → plain_number_of_text text ≡ Some n → text ≡ decimal n
decimal-plain_number text n e =
    let parts = plain_parts (has_leading_zero text) (is_number text) (text_value text) n e in
    let number = four_parts (nat_lt 0 (length text)) (nat_le (length text) 20) (all_ascii_digits text) (nat_lt (text_value text) (2 ^ 64)) parts.1 in
    let there : 0 < length text = let t = number.0 in grind (arith, nat_tests) in
    let fits : text_value text < 2 ^ 64 = let t = number.3 in grind (arith, nat_tests) in
    sym (decimal-digits_value own text number.2 there (alone text number.0 parts.0) fits) ∙ ap decimal parts.2

pub digits-decimal : (n : ℕ) → n < 2 ^ 64 → all_ascii_digits (decimal n) ≡ true
digits-decimal n small = digits_decimal own n small
