-- The timers of the lines, after the kernel's software debouncing of the GPIO character device. A table has
-- a row for each line of each place, by place and then by offset; a line that never was debounced has no timer. A line is hard
-- where its chip's driver debounces it, as controllers with debounce support do of which the kernel's document on GPIO drivers
-- speaks: its levels count at once.
use Rattle.std.specs.Prelude.{ℕ, Bool, true, false, not, is_none, ◌≡◌, ◌||◌, ◌+◌, ◌-◌, ◌*◌, List, [], ◌∷◌, ◌++◌, length, Option, Some, None, replicate, slice_index_or, slice_set}
use Rattle.std.specs.Option.{option_map}
use Rattle.gl_base.specs.Positions.{change_at}
use Rattle.gl_base.specs.declared.limits.TheConstants.{LINES_MAX, PLACES}
use Rattle.gl_debounce.specs.declared.timer.Timer.{Timer}
use Rattle.gl_debounce.specs.declared.timer.TimerLevels.{TimerLevels}

-- where the line stands in the table
abbrev pub line_number : ℕ → ℕ → ℕ
line_number place offset = place * LINES_MAX + offset

-- the line's timer, if it has one
abbrev pub timer_at : List (Option Timer) → ℕ → ℕ → Option Timer
timer_at lines place offset = slice_index_or lines (line_number place offset) None

-- the table in which no line has a timer
unfoldable pub no_timers : List (Option Timer)
no_timers = replicate (PLACES * LINES_MAX) None

-- the timer of a line with these levels, if it is debounced, and this deadline
abbrev pub timer_with : Option TimerLevels → Option ℕ → Option Timer
timer_with None deadline = None
timer_with (Some levels) deadline = Some (record { raw = levels.raw; settled = levels.settled; hard = levels.hard; deadline = deadline })

-- the timers of lines with these levels and these deadlines
abbrev pub timers_of : List (Option TimerLevels) → List (Option ℕ) → List (Option Timer)
timers_of [] deadlines = []
timers_of (levels ∷ others) [] = []
timers_of (levels ∷ others) (deadline ∷ deadlines) = timer_with levels deadline ∷ timers_of others deadlines

-- the table of all lines, of which the first have a row; a line without a row has no timer
unfoldable pub all_lines : List (Option Timer) → List (Option Timer)
all_lines rows = rows ++ replicate (PLACES * LINES_MAX - length rows) None

-- the table with the line's timer changed; a line without one stays without
abbrev pub with_timer : (Timer → Timer) → ℕ → ℕ → List (Option Timer) → List (Option Timer)
with_timer f place offset lines = change_at None (line_number place offset) (option_map f) lines

-- the table in which the line has this timer
abbrev pub with_new_timer : Timer → ℕ → ℕ → List (Option Timer) → List (Option Timer)
with_new_timer timer place offset lines = slice_set lines (line_number place offset) (Some timer)

-- the timer of a line that has settled at this level, and that is hard, or isn't
abbrev pub still : Bool → Bool → Timer
still level hard = record { raw = level; settled = level; hard = hard; deadline = None }

-- the timer without its deadline
abbrev pub without_deadline : Timer → Timer
without_deadline timer = record timer { deadline = None }

-- the timer of a line that is let go of: no deadline runs, and it isn't hard
abbrev pub let_go : Timer → Timer
let_go timer = record timer { hard = false; deadline = None }

-- the timer after an edge to this level, which is to settle at the deadline
abbrev pub with_raw : Bool → ℕ → Timer → Timer
with_raw level deadline timer = record timer { raw = level; deadline = Some deadline }

-- the timer whose level has settled
abbrev pub settled_at_raw : Timer → Timer
settled_at_raw timer = record { raw = timer.raw; settled = timer.raw; hard = timer.hard; deadline = None }

-- the driver debounces the line with this timer; a line without a timer it doesn't
abbrev pub is_hard : Option Timer → Bool
is_hard None = false
is_hard (Some timer) = timer.hard

-- the driver debounces this line
abbrev pub hard_at : List (Option Timer) → ℕ → ℕ → Bool
hard_at lines place offset = is_hard (timer_at lines place offset)

-- a hard line has no deadline
abbrev pub is_still_if_hard : Option Timer → Bool
is_still_if_hard None = true
is_still_if_hard (Some timer) = is_none timer.deadline || not timer.hard

-- no hard line has a deadline
abbrev pub HardLinesAreStill : List (Option Timer) → Type 0
HardLinesAreStill lines = (n : ℕ) → is_still_if_hard (slice_index_or lines n None) ≡ true
