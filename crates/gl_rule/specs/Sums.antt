-- Sums over lists, and how often a number stands in one.
use Rattle.std.specs.Prelude.{ℕ, ◌+◌, ◌==◌, cond, List, [], ◌∷◌, Option, Some, None}

-- f of each, added up
abbrev pub total : {V : Type 0} → (V → ℕ) → List V → ℕ
total f [] = 0
total f (v ∷ vs) = f v + total f vs

-- how often p stands in the list
abbrev pub times : ℕ → List ℕ → ℕ
times p qs = total (λ q. cond (q == p) 1 0) qs

-- the list without the first p
abbrev pub without : ℕ → List ℕ → List ℕ
without p [] = []
without p (q ∷ qs) = cond (q == p) qs (q ∷ without p qs)

abbrev pub number_or_zero : Option ℕ → ℕ
number_or_zero (Some t) = t
number_or_zero None = 0

abbrev pub count_some : Option ℕ → ℕ
count_some (Some t) = 1
count_some None = 0
