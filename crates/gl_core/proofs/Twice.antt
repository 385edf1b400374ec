-- A row of a table is changed twice.
use Rattle.std.proofs.Common.{◌≡◌, ℕ, zero, suc, ◌<◌, List, [], ◌∷◌, length, refl, ap, arith}
use Rattle.gl_base.specs.Positions.{change_at}

pub changed_twice : {X : Type 0} (d : X) (n : ℕ) (f g : X → X) (xs : List X) → n < length xs → change_at d n g (change_at d n f xs) ≡ change_at d n (λ x. g (f x)) xs
changed_twice d n f g [] lt = absurd (omega arith)
changed_twice d zero f g (x ∷ xs) lt = refl
changed_twice d (suc n) f g (x ∷ xs) lt = ap (λ l. x ∷ l) (changed_twice d n f g xs (omega arith))
