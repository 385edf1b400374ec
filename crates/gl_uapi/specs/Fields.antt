-- The fields of a structure: where a number, a stretch of bytes or zeros stand in a list of bytes.
use Rattle.std.specs.Prelude.{ℕ, zero, suc, Bool, ◌==◌, ◌+◌, ◌<◌, List, [], ◌∷◌, ◌++◌, length, take, drop, replicate, slice_index}
use Rattle.std.specs.List.{list_all}
use Rattle.byteorder.specs.Endian.{little_number, little_bytes}

-- each is below 256, as the bytes of memory are
abbrev pub AreBytes : List ℕ → Type 0
AreBytes bytes = (k : ℕ) → slice_index bytes k < 256

-- the number that `width` bytes from `offset` on hold, the lowest byte first
unfoldable pub number_at : ℕ → ℕ → List ℕ → ℕ
number_at width offset bytes = little_number width (drop offset bytes)

-- the lowest `width` bytes of a number, the lowest first
unfoldable pub number_bytes : ℕ → ℕ → List ℕ
number_bytes width number = little_bytes width number

-- the `count` bytes from `offset` on
unfoldable pub stretch : ℕ → ℕ → List ℕ → List ℕ
stretch offset count bytes = take count (drop offset bytes)

-- the `count` stretches of `size` bytes that stand one after the other from `offset` on
unfoldable pub stretches : ℕ → ℕ → ℕ → List ℕ → List (List ℕ)
stretches size offset zero bytes = []
stretches size offset (suc count) bytes = stretch offset size bytes ∷ stretches size (offset + size) count bytes

-- the `count` bytes from `offset` on are zero
abbrev pub is_zero_at : ℕ → ℕ → List ℕ → Bool
is_zero_at offset count bytes = list_all (λ byte. byte == 0) (stretch offset count bytes)

-- that many zero bytes
unfoldable pub zeros : ℕ → List ℕ
zeros count = replicate count 0

-- the bytes with a piece written over those from `offset` on
abbrev pub overwritten : ℕ → List ℕ → List ℕ → List ℕ
overwritten offset piece bytes = take offset bytes ++ (piece ++ drop (offset + length piece) bytes)
