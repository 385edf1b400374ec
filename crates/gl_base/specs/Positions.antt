-- Words on tables by position: a row changed, some rows changed in order, a table from a function, the first fault.
use Rattle.std.specs.Prelude.{ℕ, zero, suc, ◌+◌, List, [], ◌∷◌, Option, None, slice_set, slice_index_or}
use Rattle.std.specs.Option.{option_or}

module _ {X : Type 0} where
  -- the table with the row at position n changed; past the end nothing changes. `d` stands for the row that is read past the end
  abbrev pub change_at : X → ℕ → (X → X) → List X → List X
  change_at d n f xs = slice_set xs n (f (slice_index_or xs n d))

  -- the table with the rows at these positions changed, in order
  abbrev pub change_each : X → List ℕ → (X → X) → List X → List X
  change_each d [] f xs = xs
  change_each d (n ∷ ns) f xs = change_each d ns f (change_at d n f xs)

  -- what f gives at each of the n numbers from i on
  unfoldable pub table_from : (ℕ → X) → ℕ → ℕ → List X
  table_from f i zero = []
  table_from f i (suc n) = f i ∷ table_from f (suc i) n

-- the first fault that f finds at the n numbers from i on
abbrev pub first_fault : {E : Type 0} → (ℕ → Option E) → ℕ → ℕ → Option E
first_fault f i zero = None
first_fault f i (suc n) = option_or (f i) (first_fault f (i + 1) n)
