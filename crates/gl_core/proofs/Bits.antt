-- Words of bits, made bit by bit.
use Rattle.std.proofs.Common.{◌≡◌, ℕ, zero, suc, ◌+◌, ◌*◌, ◌%◌, ◌^◌, ◌<◌, ◌≤◌, Bool, true, false, ap, arith}
use Rattle.std.specs.Prelude.{if◌then◌else◌}
use Rattle.std.proofs.lemmas.Nat.{pow_below}
use Rattle.std.proofs.Math.Pow.{pow_mono}
use Rattle.gl_model.specs.Bits.{bits_where}

-- the word of one bit
pub one_bit : (n : ℕ) → n < 64 → 1 * 2 ^ n % 18446744073709551616 ≡ 2 ^ n
one_bit n lt = let below : 2 ^ n < 2 ^ 64 = pow_below n 64 lt in grind (arith, below)

-- one bit more
pub bits_where_more : (test : ℕ → Bool) (n : ℕ) → bits_where test (n + 1) ≡ bits_where test n + (if test n then 2 ^ n else 0)
unfolding bits_where
bits_where_more test n = let e : n + 1 ≡ suc n = omega arith in ap (bits_where test) e

bit_at_most : (b : Bool) (n : ℕ) → (if b then 2 ^ n else 0) ≤ 2 ^ n
bit_at_most true n = omega arith
bit_at_most false n = omega arith

bits_where_below : (test : ℕ → Bool) (n : ℕ) → bits_where test n < 2 ^ n
unfolding bits_where
bits_where_below test zero = omega arith
bits_where_below test (suc n) =
    let so_far : bits_where test n < 2 ^ n = bits_where_below test n in
    let more : (if test n then 2 ^ n else 0) ≤ 2 ^ n = bit_at_most (test n) n in
    omega arith

-- the bits fit a word of 64
pub bits_where_fit : (test : ℕ → Bool) (n : ℕ) → n < 64 → bits_where test n + (if test n then 2 ^ n else 0) < 18446744073709551616
bits_where_fit test n lt =
    let so_far : bits_where test n < 2 ^ n = bits_where_below test n in
    let more : (if test n then 2 ^ n else 0) ≤ 2 ^ n = bit_at_most (test n) n in
    let room : suc n ≤ 64 = omega arith in
    let top : 2 ^ suc n ≤ 2 ^ 64 = pow_mono {i = suc n} {j = 64} room in
    omega arith

-- the bits so far are those below the next one
pub bits_below_more : (bits bit n : ℕ) (test : Bool) → bits < 2 ^ n → bit ≡ (if test then 2 ^ n else 0) → bits + bit < 2 ^ (n + 1)
bits_below_more bits bit n test so_far is =
    let more : (if test then 2 ^ n else 0) ≤ 2 ^ n = bit_at_most test n in
    let z : n + 1 ≡ suc n = omega arith in
    let top : 2 ^ (n + 1) ≡ 2 ^ suc n = ap (λ m. 2 ^ m) z in
    omega arith
