-- Words that are made of bits, counted from the lowest.
use Rattle.std.specs.Prelude.{ℕ, zero, suc, ◌+◌, ◌%◌, ◌^◌, Bool, not, ◌==◌, if◌then◌else◌}

-- the word that has just those of its lowest n bits that pass the test
unfoldable pub bits_where : (ℕ → Bool) → ℕ → ℕ
bits_where test zero = 0
bits_where test (suc n) = bits_where test n + (if test n then 2 ^ n else 0)

-- a word has one of its lowest n bits
abbrev pub has_bit_below : ℕ → ℕ → Bool
has_bit_below n word = not (word % 2 ^ n == 0)
