-- What is a name.
use Rattle.std.proofs.Common.{◌≡◌, ℕ, ◌+◌, ◌^◌, ◌<◌, ◌≤◌, Bool, true, false, cond, ◌&&◌, List, [], ◌∷◌, ◌++◌, length, take, refl, ◌∙◌, IsTrue, arith, length-take, length-append}
use Rattle.std.proofs.Math.Numerals.{one-add}
use Rattle.std.specs.Prelude.{nat_le}
use Rattle.std.specs.Char.{is_ascii_digit}
use Rattle.std.specs.List.{list_all, prefix_len, take_while}
use Rattle.std.specs.Str.{all_ascii_digits}
use Rattle.std.proofs.lemmas.Bool.Decides.{nat_tests}
use Rattle.std.proofs.lemmas.Fmt.{length-decimal-le}
use Rattle.std.proofs.lemmas.List.Folds.{list_all-append}
use Rattle.gl_base.specs.Decimal.{decimal}
use Rattle.gl_base.specs.Name.{is_name, is_nonzero}
use Rattle.gl_base.proofs.Decimals.{digits-decimal}

-- one element more before the first that fails
passes_more : {X : Type 0} (p : X → Bool) (x : X) (xs : List X) (n : ℕ) (b : Bool) → p x ≡ b → list_all p (take n xs) ≡ true → list_all p (take (cond b (1 + n) 0) (x ∷ xs)) ≡ true
passes_more p x xs n true e h = rw (one-add, e) h
passes_more p x xs n false e h = refl

-- what stands before the first element that fails passes
pub list_all-take_while : {X : Type 0} (p : X → Bool) (xs : List X) → list_all p (take_while p xs) ≡ true
list_all-take_while p [] = refl
list_all-take_while p (x ∷ xs) = passes_more p x xs (prefix_len p xs) (p x) refl (list_all-take_while p xs)

both : (a b : Bool) → a ≡ true → b ≡ true → IsTrue (a && b)
both a b e h = rw (e, h)

-- the bytes before the first 0 of at most 31 bytes are a name
pub name_before_zero : (bytes : List ℕ) → length bytes ≤ 31 → IsTrue (is_name (take_while is_nonzero bytes))
name_before_zero bytes short =
    let within : length (take_while is_nonzero bytes) ≤ 31 = omega (arith, length-take (prefix_len is_nonzero bytes) bytes) in
    let fits : nat_le (length (take_while is_nonzero bytes)) 31 ≡ true = grind (arith, nat_tests) in
    both (nat_le (length (take_while is_nonzero bytes)) 31) (list_all is_nonzero (take_while is_nonzero bytes)) fits (list_all-take_while is_nonzero bytes)

digit_nonzero : (b c : Bool) (byte : ℕ) → is_ascii_digit byte ≡ b → (b && c) ≡ true → (is_nonzero byte ≡ true) × (c ≡ true)
digit_nonzero true c byte e h = (grind (arith, nat_tests), h)
digit_nonzero false c byte e h = cc

-- no digit is 0
list_all-digits : (digits : List ℕ) → all_ascii_digits digits ≡ true → list_all is_nonzero digits ≡ true
list_all-digits [] e = refl
list_all-digits (digit ∷ digits) e =
    let parts = digit_nonzero (is_ascii_digit digit) (all_ascii_digits digits) digit refl e in
    both (is_nonzero digit) (list_all is_nonzero digits) parts.0 (list_all-digits digits parts.1)

short_part : (a b : Bool) → (a && b) ≡ true → b ≡ true
short_part true b e = e
short_part false b e = cc

-- a name of at most 11 bytes and a number behind it is a name
pub name_with_number : (text : List ℕ) (n : ℕ) → IsTrue (is_name text) → length text ≤ 11 → n < 2 ^ 64 → IsTrue (is_name (text ++ decimal n))
name_with_number text n name short small =
    let digits : length (decimal n) ≤ 20 = length-decimal-le 20 n (omega arith) (omega arith) small in
    let within : length (text ++ decimal n) ≤ 31 = omega (arith, length-append text (decimal n)) in
    let fits : nat_le (length (text ++ decimal n)) 31 ≡ true = grind (arith, nat_tests) in
    let first : list_all is_nonzero text ≡ true = short_part (nat_le (length text) 31) (list_all is_nonzero text) name in
    let all : list_all is_nonzero (text ++ decimal n) ≡ true = list_all-append is_nonzero text (decimal n) ∙ both (list_all is_nonzero text) (list_all is_nonzero (decimal n)) first (list_all-digits (decimal n) (digits-decimal n small)) in
    both (nat_le (length (text ++ decimal n)) 31) (list_all is_nonzero (text ++ decimal n)) fits all
