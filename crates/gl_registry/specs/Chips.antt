-- The chips by place. A place has a chip from the making of one on, and the list of the chips begins with place 0.
use Rattle.std.specs.Prelude.{ℕ, Bool, true, false, if◌then◌else◌, List, [], Option, Some, None, slice_index_or}
use Rattle.gl_base.specs.ChipWord.{chip_number_of}
use Rattle.gl_base.specs.declared.phase.Phase.{Phase}
use Rattle.gl_base.specs.declared.phase.Phase.TheVariants.{Absent, Up, Leaving, Gone}
use Rattle.gl_registry.specs.declared.registry.Chip.{Chip}

-- what stands at a place where no chip was made
abbrev pub no_chip : Chip
no_chip = record { label = []; lines = 0; phase = Absent }

-- the chip at a place
abbrev pub chip_at : List Chip → ℕ → Chip
chip_at chips place = slice_index_or chips place no_chip

-- a new chip
abbrev pub new_chip : List ℕ → ℕ → Chip
new_chip label lines = record { label = label; lines = lines; phase = Up }

-- the phase after this one: only a chip that is up or leaving has one
abbrev pub next_phase : Phase → Phase
next_phase Absent = Absent
next_phase Up = Leaving
next_phase Leaving = Gone
next_phase Gone = Gone

-- the chip one phase on
abbrev pub moved_on : Chip → Chip
moved_on chip = record chip { phase = next_phase chip.phase }

-- a chip can be named while it is up or leaving
abbrev pub can_be_named : Phase → Bool
can_be_named Absent = false
can_be_named Up = true
can_be_named Leaving = true
can_be_named Gone = false

-- the place of the chip of this number, if that can be named
abbrev pub named_place : List Chip → Option ℕ → Option ℕ
named_place chips None = None
named_place chips (Some number) = if can_be_named (chip_at chips number).phase then Some number else None

-- the place of the chip that has this word
abbrev pub place_of_word : List Chip → List ℕ → Option ℕ
place_of_word chips word = named_place chips (chip_number_of word)
