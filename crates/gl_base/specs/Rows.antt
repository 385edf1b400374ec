-- Words on the rows of a table: the first row that passes a test, and what is true of each row.
use Rattle.std.specs.Prelude.{Bool, if◌then◌else◌, List, [], ◌∷◌}

module _ {X : Type 0} where
  -- the rows with the first that passes the test changed
  abbrev pub change_first : (X → Bool) → (X → X) → List X → List X
  change_first test f [] = []
  change_first test f (x ∷ xs) = if test x then (f x ∷ xs) else (x ∷ change_first test f xs)

  -- the rows without the first that passes the test
  abbrev pub without_first : (X → Bool) → List X → List X
  without_first test [] = []
  without_first test (x ∷ xs) = if test x then xs else (x ∷ without_first test xs)

  -- P holds of each row
  abbrev pub Each : (X → Type 0) → List X → Type 0
  Each P [] = Unit {0}
  Each P (x ∷ xs) = P x × Each P xs
