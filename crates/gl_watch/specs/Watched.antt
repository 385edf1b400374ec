-- Lines as the bits of words, 64 a word.
use Rattle.std.specs.Prelude.{ℕ, Bool, ◌/◌, ◌%◌, ◌^◌, List, slice_index_or, slice_set}
use Rattle.std.specs.Int.Bits.{bit_xor}
use Rattle.gl_base.specs.Bits.{has_bit}

-- the bit of the line at an offset is set
abbrev pub is_marked : List ℕ → ℕ → Bool
is_marked words offset = has_bit (slice_index_or words (offset / 64) 0) (offset % 64)

-- the words with the bit of the line at an offset changed
abbrev pub with_mark_changed : ℕ → List ℕ → List ℕ
with_mark_changed offset words = slice_set words (offset / 64) (bit_xor (slice_index_or words (offset / 64) 0) (2 ^ (offset % 64)))
