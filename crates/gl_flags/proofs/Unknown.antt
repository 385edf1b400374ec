-- The known flags are the lowest thirteen bits.
use Rattle.std.proofs.Common.{ℕ, Bool, true, false, ◌≡◌, ◌%◌, ◌<◌, Option, Some, None, leb, refl, sym, ◌∙◌, inl, inr, arith}
use Rattle.std.specs.Prelude.{IsSome, is_some, not}
use Rattle.std.specs.Int.RustNames.{bit_and}
use Rattle.std.proofs.Math.Nat.{mod-eq_of_lt, mod-lt}
use Rattle.std.proofs.lemmas.Bool.{cases_lt, false≢true, le-leb, lt-leb}
use Rattle.std.proofs.lemmas.Nat.{and_mask}

-- a word below 2 ^ 13 has no other bit
known : (bits : ℕ) → bits < 8192 → bit_and bits 8191 ≡ bits
known bits below = and_mask bits 13 ∙ mod-eq_of_lt below

-- and the other way round
below_known : (bits : ℕ) → bit_and bits 8191 ≡ bits → bits < 8192
below_known bits same =
    let masked : bits % 8192 ≡ bits = sym (and_mask bits 13) ∙ same in
    let small : bits % 8192 < 8192 = mod-lt bits (omega arith) in
    omega arith

-- the answer of a look at the known bits
pub unknown_above : {X : Type 0} (o : Option X) (unknown : Bool) (bits : ℕ) → is_some o ≡ not unknown
    → (IsSome o → bit_and bits 8191 ≡ bits) × (bit_and bits 8191 ≡ bits → IsSome o) → unknown ≡ leb 8192 bits
unknown_above (Some x) true bits e some = cc
unknown_above (Some x) false bits e some = sym (lt-leb 8192 bits (below_known bits (some.0 refl)))
unknown_above None true bits e some =
    elim (cases_lt bits 8192) [ inl below ↦ absurd (false≢true (some.1 (known bits below))) | inr above ↦ sym (le-leb 8192 bits above) ]
unknown_above None false bits e some = cc
