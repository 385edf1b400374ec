-- A set of flags is seen as its word.
use Rattle.std.specs.Prelude.{ℕ}
use Rattle.gl_flags.specs.declared.line_flags.LineFlags.{LineFlags}

-- the word of a set of flags
abbrev pub bits_of : LineFlags → ℕ
bits_of flags = flags.0

-- the set of flags of a word
abbrev pub flags_of : ℕ → LineFlags
flags_of bits = record { 0 = bits }
