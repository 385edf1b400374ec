-- The bits of a word that is made of a test.
use Rattle.std.proofs.Common.{◌≡◌, ℕ, zero, suc, ◌+◌, ◌*◌, ◌-◌, ◌^◌, ◌<◌, ◌≤◌, Bool, true, false, inl, inr, ap, ◌∙◌, subst, arith}
use Rattle.std.specs.Prelude.{◌==◌, if◌then◌else◌}
use Rattle.std.specs.Int.{bit_at}
use Rattle.std.proofs.lemmas.Bool.{cases_lt}
use Rattle.std.proofs.lemmas.Nat.Bits.{bit_at_above, bit_at_cat_high, bit_at_cat_low, bit_at_lowest}
use Rattle.gl_base.specs.Bits.{has_bit}
use Rattle.gl_model.specs.Bits.{bits_where}

bit_at_most : (b : Bool) (n : ℕ) → (if b then 2 ^ n else 0) ≤ 2 ^ n
bit_at_most true n = omega arith
bit_at_most false n = omega arith

bits_below : (test : ℕ → Bool) (n : ℕ) → bits_where test n < 2 ^ n
unfolding bits_where
bits_below test zero = omega arith
bits_below test (suc n) =
    let so_far : bits_where test n < 2 ^ n = bits_below test n in
    let more : (if test n then 2 ^ n else 0) ≤ 2 ^ n = bit_at_most (test n) n in
    omega arith

-- a word with one more bit over it
over : (low n : ℕ) → low + 2 ^ n ≡ 1 * 2 ^ n + low
over low n = omega arith

low_bit : (b : Bool) (low n i : ℕ) → i < n → has_bit (low + (if b then 2 ^ n else 0)) i ≡ has_bit low i
low_bit true low n i less = ap (λ m. bit_at m i == 1) (over low n) ∙ ap (λ m. m == 1) (bit_at_cat_low 1 n low i less)
low_bit false low n i less = let e : low + 0 ≡ low = omega arith in ap (λ m. has_bit m i) e

top_bit : (b : Bool) (low n : ℕ) → low < 2 ^ n → has_bit (low + (if b then 2 ^ n else 0)) n ≡ b
top_bit true low n below =
    let e : n - n ≡ 0 = omega arith in
    ap (λ m. bit_at m n == 1) (over low n) ∙ ap (λ m. m == 1) (bit_at_cat_high 1 n low n below (omega arith) ∙ (ap (λ k. bit_at 1 k) e ∙ bit_at_lowest 1))
top_bit false low n below = let e : low + 0 ≡ low = omega arith in ap (λ m. has_bit m n) e ∙ ap (λ m. m == 1) (bit_at_above low n n below (omega arith))

pub has_bit_where : (test : ℕ → Bool) (count i : ℕ) → i < count → has_bit (bits_where test count) i ≡ test i
unfolding bits_where
has_bit_where test zero i less = absurd (omega arith)
has_bit_where test (suc n) i less = elim (cases_lt i n) as (λ _. has_bit (bits_where test n + (if test n then 2 ^ n else 0)) i ≡ test i) [
  | inl below ↦ low_bit (test n) (bits_where test n) n i below ∙ has_bit_where test n i below
  | inr top ↦ (let at : n ≡ i = omega arith in subst (λ k. has_bit (bits_where test n + (if test n then 2 ^ n else 0)) k ≡ test k) at (top_bit (test n) (bits_where test n) n (bits_below test n)))
]
