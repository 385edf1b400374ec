-- A word of flags of the first uAPI and one of v2: a flag has the same name in both, and another bit. One table of
-- pairs is read both ways.
use Rattle.std.specs.Prelude.{ℕ, ◌^◌, nat_lt, if◌then◌else◌, List, [], ◌∷◌, bit_or, length, map}
use Rattle.gl_base.specs.Bits.{has_bit}
use Rattle.gl_base.specs.declared.flag.TheConstants.{INPUT}
use Rattle.gl_v1.specs.declared.flags.FlagPair.{FlagPair}
use Rattle.gl_v1.specs.declared.flags.TheConstants.{UNKNOWN}

-- a word with a bit more, where another word has the bit that stands for it
abbrev pub joined : ℕ → ℕ → ℕ → ℕ → ℕ
joined word here there flags = if has_bit word here then bit_or flags (2 ^ there) else flags

-- the bits of v2 for those that a word has, joined with those so far
abbrev pub newer : List FlagPair → ℕ → ℕ → ℕ
newer [] word flags = flags
newer (pair ∷ table) word flags = newer table word (joined word pair.old pair.new flags)

-- the bits of the first uAPI for those that a word of v2 has, joined with those so far
abbrev pub older : List FlagPair → ℕ → ℕ → ℕ
older [] word flags = flags
older (pair ∷ table) word flags = older table word (joined word pair.new pair.old flags)

-- A word of the first uAPI as one of v2. The rows of the table are the lowest bits of such a word, in order; each other
-- bit becomes the bit that v2 knows no flag for, and that it refuses.
abbrev pub newer_word : List FlagPair → ℕ → ℕ
newer_word table word =
    if nat_lt word (2 ^ length table) then newer table word 0 else bit_or (newer table word 0) (2 ^ UNKNOWN)

-- a word of v2 as one of the first uAPI
abbrev pub older_word : List FlagPair → ℕ → ℕ
older_word table word = older table word 0

-- the flags of a line whose edges are events: it is always an input
abbrev pub event_word : List FlagPair → List FlagPair → ℕ → ℕ → ℕ
event_word handle_table event_table handle_flags event_flags =
    bit_or (bit_or (newer_word handle_table handle_flags) (newer_word event_table event_flags)) (2 ^ INPUT)

-- the bits of a table's flags in the first uAPI
abbrev pub old_bits : List FlagPair → List ℕ
old_bits table = map (λ pair. pair.old) table

-- those in v2
abbrev pub new_bits : List FlagPair → List ℕ
new_bits table = map (λ pair. pair.new) table
