-- Levels of lines, as bits.
use Rattle.std.specs.Prelude.{ℕ, ◌+◌, ◌*◌, cond, Bool, false, Option, Some, None, List, [], ◌∷◌, slice_get}
use Rattle.gl_base.specs.Lines.{offsets_of}
use Rattle.gl_base.specs.declared.op.Op.{Op}
use Rattle.gl_base.specs.declared.op.Op.TheVariants.{Apply, Get, Set}

abbrev pub level_or_low : Option Bool → Bool
level_or_low (Some level) = level
level_or_low None = false

-- the level at an offset; lines past the list are 0
abbrev pub level_at : List Bool → ℕ → Bool
level_at levels offset = level_or_low (slice_get levels offset)

-- the levels at these offsets, the first one's in the lowest bit
abbrev pub bits_at : List Bool → List ℕ → ℕ
bits_at levels [] = 0
bits_at levels (offset ∷ offsets) = cond (level_at levels offset) 1 0 + 2 * bits_at levels offsets

-- what a driver with these levels answers
abbrev pub answer_from : List Bool → Op → ℕ
answer_from levels (Get lines) = bits_at levels (offsets_of lines)
answer_from levels (Set lines mask bits) = 0
answer_from levels (Apply lines settings) = 0
