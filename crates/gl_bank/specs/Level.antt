-- The levels of a line. From the kernel's documents on the GPIO character device and on GPIO drivers (open drain, open
-- source, active low, bias) and on gpio-sim (pull); where those are silent it is this project's choice.
use Rattle.std.specs.Prelude.{ℕ, Bool, true, false, not, ◌&&◌, if◌then◌else◌, List, Option, Some, None, slice_index_or}
use Rattle.gl_base.specs.Bits.{has_bit}
use Rattle.gl_base.specs.declared.flag.TheConstants.{ACTIVE_LOW, INPUT, OUTPUT, OPEN_DRAIN, OPEN_SOURCE, BIAS_PULL_UP, BIAS_PULL_DOWN}
use Rattle.gl_base.specs.declared.settings.Settings.{Settings}
use Rattle.gl_bank.specs.declared.levels.Change.{Change}
use Rattle.gl_bank.specs.declared.levels.Levels.{Levels}

-- a line at first: nobody holds it, and it is an input that is pulled down
abbrev pub first_levels : Levels
first_levels = record { held = false; output = false; drive = false; pull = false; flags = 0; debounce_us = 0 }

-- the line at an offset
abbrev pub levels_at : List Levels → ℕ → Levels
levels_at bank offset = slice_index_or bank offset first_levels

-- a level as a logical value, or a logical value as a level: inverted where ACTIVE_LOW stands
abbrev pub flipped : ℕ → Bool → Bool
flipped flags value = if has_bit flags ACTIVE_LOW then not value else value

-- an output lets its line go: an open-drain line that is driven 1, or an open-source line that is driven 0
abbrev pub lets_go : Levels → Bool
lets_go line = if line.drive then has_bit line.flags OPEN_DRAIN else has_bit line.flags OPEN_SOURCE

-- a line is driven: it is a held output that doesn't let go
abbrev pub is_driven : Levels → Bool
is_driven line = line.held && line.output && not (lets_go line)

-- the physical level of a line: its drive where it is driven, else its pull
abbrev pub level : Levels → Bool
level line = if is_driven line then line.drive else line.pull

-- the logical value of a line
abbrev pub logical : Levels → Bool
logical line = flipped line.flags (level line)

-- the line with another pull
abbrev pub pulled : Bool → Levels → Levels
pulled up line = record line { pull = up }

-- the line with another drive
abbrev pub driven : Bool → Levels → Levels
driven physical line = record line { drive = physical }

-- what a change from one level to another is, if it is one
abbrev pub change_between : Bool → Bool → Option Change
change_between false false = None
change_between false true = Some (record { rose = true })
change_between true false = Some (record { rose = false })
change_between true true = None

-- the pull that the flags for a bias set, or else the pull as it was
abbrev pub biased : ℕ → Bool → Bool
biased flags pull = if has_bit flags BIAS_PULL_UP then true else if has_bit flags BIAS_PULL_DOWN then false else pull

-- a held line with these settings, before its direction
abbrev pub held_with : Settings → Levels → Levels
held_with settings line =
    record line { held = true; flags = settings.flags; debounce_us = settings.debounce_us; pull = biased settings.flags line.pull }

-- the line with the direction that its settings ask for. Without one it keeps its direction, and an output is driven
-- with its pull
abbrev pub directed : Settings → Levels → Levels
directed settings line =
    if has_bit settings.flags OUTPUT then record line { output = true; drive = flipped settings.flags settings.value }
    else if has_bit settings.flags INPUT then record line { output = false }
    else if line.output then record line { drive = line.pull }
    else line

-- the line after it was configured
abbrev pub configured : Settings → Levels → Levels
configured settings line = directed settings (held_with settings line)

-- the line when nobody holds it any more: its direction, drive and pull stay
abbrev pub released : Levels → Levels
released line = record line { held = false; flags = 0; debounce_us = 0 }
