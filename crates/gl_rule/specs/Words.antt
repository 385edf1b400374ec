-- The shared words have 64 bits.
use Rattle.std.specs.Prelude.{ℕ}

-- how many values a word has
abbrev pub word_values : ℕ
word_values = 18446744073709551616

-- the bit of a guard word that says that its place is closed; below it stands the count of those who are there
abbrev pub closed_bit : ℕ
closed_bit = 9223372036854775808
