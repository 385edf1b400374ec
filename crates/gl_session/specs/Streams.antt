-- What is read of a source and written to a sink, where they tell their bytes.
use Rattle.std.specs.Prelude.{◌≤◌, ◌+◌, ℕ, List, length, take, Option}
use Rattle.std.specs.Io.KnownBytes.{Consumes, Appends, IsAtEnd}

-- the first bytes were read: to the end of input, or one more than the limit
pub record ReadsThrough (limit : ℕ) (old new : Option (List ℕ)) (bytes : List ℕ) : Type 0 where
  pub first : Consumes old new bytes
  pub most : length bytes ≤ limit + 1
  pub end : length bytes ≤ limit → IsAtEnd new

-- some of the first bytes were read, and these are gone
abbrev pub LosesFront : Option (List ℕ) → Option (List ℕ) → Type 0
LosesFront old new = (bytes : List ℕ) × Consumes old new bytes

-- a front of the text was written
abbrev pub AppendsFront : Option (List ℕ) → Option (List ℕ) → List ℕ → Type 0
AppendsFront old new text = (count : ℕ) × Appends old new (take count text)
