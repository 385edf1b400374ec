-- The words that name a chip.
use Rattle.std.proofs.Common.{◌≡◌, ◌≢◌, ℕ, ◌^◌, ◌<◌, Bool, true, false, cond, ◌&&◌, List, [], ◌∷◌, ◌++◌, length, get_or, drop, Some, refl, sym, ap, ◌∙◌, inl, inr, arith}
use Rattle.std.specs.Prelude.{codes, nat_eq}
use Rattle.std.specs.Char.{is_ascii_digit}
use Rattle.std.specs.List.{starts_with}
use Rattle.std.specs.Str.{all_ascii_digits}
use Rattle.std.proofs.lemmas.Slice.Eq.{starts_is}
use Rattle.std.proofs.lemmas.Bool.Decides.{Decides-eqb, nat_tests}
use Rattle.std.proofs.lemmas.Fmt.{decimal_nonempty}
use Rattle.gl_base.specs.Decimal.{decimal, plain_number_of_text}
use Rattle.gl_base.specs.ChipWord.{chip_name, chip_path, IsChipWord, without_chip_prefix, chip_number_of}
use Rattle.gl_base.proofs.Decimals.{decimal-plain_number, plain_number_of_text-decimal, digits-decimal}

behind : (word prefix : List ℕ) → starts_with nat_eq word prefix ≡ true → word ≡ prefix ++ drop (length prefix) word
behind word prefix e = (starts_is Decides-eqb word prefix (starts_with nat_eq word prefix) refl).0 e

pub word-chip_number : (word : List ℕ) (n : ℕ) → chip_number_of word ≡ Some n → IsChipWord word n
word-chip_number word n = by_prefix (starts_with nat_eq word (codes "/dev/gpiochip")) (starts_with nat_eq word (codes "gpiochip")) refl refl
  where
    by_prefix : (b c : Bool) → starts_with nat_eq word (codes "/dev/gpiochip") ≡ b → starts_with nat_eq word (codes "gpiochip") ≡ c → plain_number_of_text (cond b (drop (length (codes "/dev/gpiochip")) word) (cond c (drop (length (codes "gpiochip")) word) word)) ≡ Some n → IsChipWord word n
    by_prefix true c p q e = inr (inr (behind word (codes "/dev/gpiochip") p ∙ ap (λ xs. codes "/dev/gpiochip" ++ xs) (decimal-plain_number (drop (length (codes "/dev/gpiochip")) word) n e)))
    by_prefix false true p q e = inr (inl (behind word (codes "gpiochip") q ∙ ap (λ xs. codes "gpiochip" ++ xs) (decimal-plain_number (drop (length (codes "gpiochip")) word) n e)))
    by_prefix false false p q e = inl (decimal-plain_number word n e)

differs : (c : ℕ) (prefix word : List ℕ) → nat_eq c (get_or word 0 0) ≡ false → starts_with nat_eq word (c ∷ prefix) ≡ false
differs c prefix [] e = refl
differs c prefix (x ∷ xs) e = rw e

first_digit : (digits : List ℕ) → 0 < length digits → all_ascii_digits digits ≡ true → is_ascii_digit (get_or digits 0 0) ≡ true
first_digit [] there e = absurd (omega arith)
first_digit (x ∷ xs) there e = first_part (is_ascii_digit x) (all_ascii_digits xs) e
  where
    first_part : (b c : Bool) → (b && c) ≡ true → b ≡ true
    first_part true c q = refl
    first_part false c q = cc

digit_differs : (c x : ℕ) → is_ascii_digit c ≡ false → is_ascii_digit x ≡ true → nat_eq c x ≡ false
digit_differs c x p q =
    let other : c ≢ x = λ e. let r : is_ascii_digit x ≡ false = sym (ap is_ascii_digit e) ∙ p in cc in
    grind (arith, nat_tests)

pub chip_number_of-decimal : (n : ℕ) → n < 2 ^ 64 → chip_number_of (decimal n) ≡ Some n
chip_number_of-decimal n small =
    let digit = first_digit (decimal n) (decimal_nonempty n small) (digits-decimal n small) in
    let slash : starts_with nat_eq (decimal n) (codes "/dev/gpiochip") ≡ false = differs 47 (codes "dev/gpiochip") (decimal n) (digit_differs 47 (get_or (decimal n) 0 0) refl digit) in
    let letter : starts_with nat_eq (decimal n) (codes "gpiochip") ≡ false = differs 103 (codes "piochip") (decimal n) (digit_differs 103 (get_or (decimal n) 0 0) refl digit) in
    let whole : without_chip_prefix (decimal n) ≡ decimal n = rw (slash, letter) in
    ap plain_number_of_text whole ∙ plain_number_of_text-decimal n small

pub chip_number_of-chip_name : (n : ℕ) → n < 2 ^ 64 → chip_number_of (chip_name n) ≡ Some n
chip_number_of-chip_name n small = plain_number_of_text-decimal n small

pub chip_number_of-chip_path : (n : ℕ) → n < 2 ^ 64 → chip_number_of (chip_path n) ≡ Some n
chip_number_of-chip_path n small = plain_number_of_text-decimal n small

pub chip_number-word : (word : List ℕ) (n : ℕ) → n < 2 ^ 64 → IsChipWord word n → chip_number_of word ≡ Some n
chip_number-word word n small (inl e) = ap chip_number_of e ∙ chip_number_of-decimal n small
chip_number-word word n small (inr (inl e)) = ap chip_number_of e ∙ chip_number_of-chip_name n small
chip_number-word word n small (inr (inr e)) = ap chip_number_of e ∙ chip_number_of-chip_path n small
