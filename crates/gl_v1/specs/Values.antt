-- Values of lines: a byte a line in the first structures, a bit a line in those of v2.
use Rattle.std.specs.Prelude.{ℕ, zero, suc, ◌+◌, ◌-◌, ◌^◌, ◌==◌, nat_lt, if◌then◌else◌, List, [], ◌∷◌}
use Rattle.gl_base.specs.Bits.{has_bit}

-- the word that has bit i and those above it just where these bytes aren't 0
abbrev pub bits_from : ℕ → List ℕ → ℕ
bits_from i [] = 0
bits_from i (byte ∷ bytes) = (if byte == 0 then 0 else 2 ^ i) + bits_from (i + 1) bytes

-- a word with the bits below n, at most 64
abbrev pub bits_below : ℕ → ℕ
bits_below n = if nat_lt n 64 then 2 ^ n - 1 else 2 ^ 64 - 1

-- what the byte of line i is, of so many lines: 0 past them
abbrev pub value_byte : ℕ → ℕ → ℕ → ℕ
value_byte bits lines i = if nat_lt i lines then (if has_bit bits i then 1 else 0) else 0

-- count bytes, from that of line i on
abbrev pub value_bytes : ℕ → ℕ → ℕ → ℕ → List ℕ
value_bytes bits lines i zero = []
value_bytes bits lines i (suc count) = value_byte bits lines i ∷ value_bytes bits lines (i + 1) count
