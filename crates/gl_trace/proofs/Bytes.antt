-- The items of a slice of bytes are bytes.
use Rattle.std.proofs.Common.{◌≡◌, ℕ, suc, ◌<◌, true, nat_lt, List, [], ◌∷◌, get_or, refl, arith}
use Rattle.std.proofs.lemmas.Bool.Decides.{nat_tests}
use Rattle.gl_trace.specs.Typed.{AreBytes}

pub are_bytes : (bytes : List ℕ) → ((k : ℕ) → get_or bytes k 0 < 256) → AreBytes bytes
are_bytes [] small = refl
are_bytes (byte ∷ bytes) small =
    let here : nat_lt byte 256 ≡ true = let h : byte < 256 = small 0 in grind (arith, nat_tests) in
    rw here (are_bytes bytes (λ k. small (suc k)))
