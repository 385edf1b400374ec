-- Short texts that are kept in an array of a fixed length.
use Rattle.std.specs.Prelude.{◌≡◌, ℕ, ◌-◌, ◌≤◌, List, ◌++◌, length, take, replicate}

-- the bytes, and then zeros up to the given length
abbrev pub padded : ℕ → List ℕ → List ℕ
padded room bytes = bytes ++ replicate (room - length bytes) 0

-- an array of that length has a text of `len` bytes, and zeros behind it
pub record IsPadded (room len : ℕ) (array : List ℕ) : Type 0 where
  pub fits : len ≤ room
  pub zeros : array ≡ padded room (take len array)
  pub whole : length array ≡ room
