-- The first bytes of some.
use Rattle.std.proofs.Common.{◌≡◌, ◌≤◌, ◌<◌, ℕ, List, length, take, length-take, sym, arith}
use Rattle.std.proofs.lemmas.List.{take_all}

pub front_all : (n : ℕ) (bytes : List ℕ) → length bytes ≤ n → bytes ≡ take n bytes
front_all n bytes h = sym (take_all n bytes h)

pub front_long : (n : ℕ) (bytes : List ℕ) → n < length bytes → n ≡ length (take n bytes)
front_long n bytes h = omega (arith, length-take n bytes)

pub front_short : (n : ℕ) (bytes : List ℕ) → length (take n bytes) ≤ n
front_short n bytes = omega (arith, length-take n bytes)
