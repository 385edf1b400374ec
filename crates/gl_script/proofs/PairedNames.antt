-- Pairs of digits that write no name, since they write too many bytes.
use Rattle.std.proofs.Common.{◌≡◌, ◌<◌, ◌/◌, ℕ, Bool, true, false, ◌&&◌, nat_le, List, [], ◌∷◌, length, Option, None, Some, refl, arith}
use Rattle.std.specs.Prelude.{if◌then◌else◌}
use Rattle.std.specs.List.{list_all}
use Rattle.std.proofs.lemmas.Bool.Decides.{nat_tests}
use Rattle.gl_base.specs.BytesText.{pairs_bytes}
use Rattle.gl_base.specs.Name.{is_nonzero, name_of}

-- pairs write half as many bytes as they have digits
halves : (digits : List ℕ) → length (pairs_bytes digits) ≡ length digits / 2
halves [] = refl
halves (high ∷ []) = refl
halves (high ∷ low ∷ digits) = omega (arith, halves digits)

long_by : (a b : Bool) (bytes : List ℕ) → a ≡ false → (if a && b then Some bytes else None) ≡ None
long_by true b bytes e = cc
long_by false b bytes e = refl

pub not_longer : (digits : List ℕ) → 31 < length digits / 2 → name_of (pairs_bytes digits) ≡ None
not_longer digits long =
    let size = halves digits in
    let over : nat_le (length (pairs_bytes digits)) 31 ≡ false = grind (arith, nat_tests) in
    long_by (nat_le (length (pairs_bytes digits)) 31) (list_all is_nonzero (pairs_bytes digits)) (pairs_bytes digits) over
