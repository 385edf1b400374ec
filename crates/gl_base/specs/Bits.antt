-- The bits of a word, by their number, counted from the lowest.
use Rattle.std.specs.Prelude.{ℕ, Bool, ◌==◌}
use Rattle.std.specs.Int.{bit_at}

-- a word has the bit of this number
abbrev pub has_bit : ℕ → ℕ → Bool
has_bit bits bit = bit_at bits bit == 1
