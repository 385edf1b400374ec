-- Edges of lines, from the kernel's document on the GPIO character device (edge detection, event clocks, debouncing).
use Rattle.std.specs.Prelude.{ℕ, ◌+◌, ◌*◌, Bool, ◌==◌, ◌||◌, nat_eq, if◌then◌else◌, Option, Some, None}
use Rattle.std.specs.List.{position_or_len}
use Rattle.gl_bank.specs.Level.{flipped, levels_at}
use Rattle.gl_bank.specs.declared.levels.Change.{Change}
use Rattle.gl_bank.specs.declared.levels.Levels.{Levels}
use Rattle.gl_base.specs.Bits.{has_bit}
use Rattle.gl_base.specs.Lines.{offsets_of}
use Rattle.gl_base.specs.Rows.{change_first}
use Rattle.gl_base.specs.declared.flag.TheConstants.{EVENT_CLOCK_REALTIME}
use Rattle.gl_base.specs.declared.lines.Lines.{Lines}
use Rattle.gl_debounce.specs.Timer.{hard_at, with_raw, with_timer}
use Rattle.gl_desc.specs.Desc.{desc_at}
use Rattle.gl_desc.specs.declared.desc.Holder.{Holder}
use Rattle.gl_desc.specs.declared.desc.Holder.TheVariants.{Free, Claimed, Held, Hog}
use Rattle.gl_ring.specs.Edges.{direction_flag}
use Rattle.gl_ring.specs.Waiting.{with_item}
use Rattle.gl_model.specs.declared.place.Place.{Place}
use Rattle.gl_model.specs.Configuring.{settings_of}
use Rattle.gl_model.specs.Places.{place_at}
use Rattle.gl_model.specs.World.{World, Request, has_number}

-- the number of the request that holds a line
abbrev pub request_number : Holder → Option ℕ
request_number Free = None
request_number (Claimed fd) = None
request_number (Held fd) = Some fd
request_number Hog = None

-- the number of the request that holds a line as an input
abbrev pub input_holder : Place → ℕ → Option ℕ
input_holder place offset = if (levels_at place.bank offset).output then None else request_number (desc_at place.descs offset).holder

-- where a line stands in a request
abbrev pub position_in : ℕ → Lines → ℕ
position_in offset lines = position_or_len (nat_eq offset) (offsets_of lines)

-- a request monitors this direction of its line at an offset
abbrev pub is_monitored : ℕ → Bool → Request → Bool
is_monitored offset rising request = has_bit (settings_of request.settings (position_in offset request.lines)).flags (direction_flag rising)

-- the request after an edge of its line at an offset: one event more, where that direction is monitored
abbrev pub with_edge : ℕ → Bool → ℕ → Request → Request
with_edge offset rising timestamp request =
    if is_monitored offset rising request
    then record request { past = with_item request.capacity (record { timestamp = timestamp; rising = rising; offset = offset }) request.past }
    else request

-- when an event of a line with these flags happens: at this moment of the monotonic clock, or of the real one
abbrev pub event_time : ℕ → ℕ → ℕ → ℕ
event_time flags moment real = if has_bit flags EVENT_CLOCK_REALTIME then real else moment

-- the world after an edge of a line to a physical level, for the request that holds it as an input, if one does. The
-- direction of an event is that of the logical value: a physical rise of an ACTIVE_LOW line is a falling event.
abbrev pub edge_for : Option ℕ → ℕ → Levels → Bool → ℕ → World → World
edge_for None offset line up moment w = w
edge_for (Some fd) offset line up moment w = record w {
  requests = change_first (has_number fd) (with_edge offset (flipped line.flags up) (event_time line.flags moment w.real)) w.requests;
}

-- an edge of the line at an offset of a place, at a moment of the monotonic clock
abbrev pub edge : ℕ → ℕ → Bool → ℕ → World → World
edge place offset up moment w =
    edge_for (input_holder (place_at w place) offset) offset (levels_at (place_at w place).bank offset) up moment w

-- when a line that is debounced settles: its period, which is in microseconds, from now on
abbrev pub deadline_of : Levels → ℕ → ℕ
deadline_of line moment = moment + 1000 * line.debounce_us

-- a raw edge: an edge at once where the line isn't debounced, or by its driver, else a level that is to settle at the deadline
abbrev pub raw_edge_for : Option ℕ → ℕ → ℕ → Bool → World → World
raw_edge_for None place offset up w = w
raw_edge_for (Some fd) place offset up w =
    let line = levels_at (place_at w place).bank offset in
    if line.debounce_us == 0 || hard_at w.timers place offset
    then edge place offset up w.mono w
    else record w { timers = with_timer (with_raw up (deadline_of line w.mono)) place offset w.timers }

-- the world after a change of a line's physical level, where there is one: a raw edge for the request that holds the line
-- as an input, and nothing where none does
abbrev pub raw_edge : ℕ → ℕ → Option Change → World → World
raw_edge place offset None w = w
raw_edge place offset (Some change) w = raw_edge_for (input_holder (place_at w place) offset) place offset change.rose w
