-- Which lines their driver debounces: what becomes of the marks where a claim is held behind a driver's answer, where a request is
-- configured after one, and where it is let go of. From the kernel's document on GPIO drivers (a controller that takes a debounce
-- period); that the driver's answer has a bit for each line of the request is this project's choice.
use Rattle.std.specs.Prelude.{◌≡◌, ℕ, ◌*◌, ◌<◌, Bool, false, ◌==◌, ◌&&◌, nat_eq, if◌then◌else◌, List, Option, length, slice_index}
use Rattle.std.specs.List.{list_any}
use Rattle.gl_base.specs.Bits.{has_bit}
use Rattle.gl_base.specs.Lines.{offsets_of}
use Rattle.gl_base.specs.Rows.{Each}
use Rattle.gl_base.specs.declared.limits.TheConstants.{LINES_MAX, PLACES}
use Rattle.gl_base.specs.declared.lines.Lines.{Lines}
use Rattle.gl_base.specs.declared.settings.Resolved.{Resolved}
use Rattle.gl_debounce.specs.Timer.{hard_at}
use Rattle.gl_debounce.specs.declared.timer.Timer.{Timer}
use Rattle.gl_ring.specs.Edges.{HasDifferentLines}
use Rattle.gl_model.specs.Claiming.{hold_claim}
use Rattle.gl_model.specs.Configuring.{is_debounced_hard, is_directed, reconfigure, settings_of}
use Rattle.gl_model.specs.Opening.{without_request}
use Rattle.gl_model.specs.World.{Request, World}

-- some lines of a place, no two the same, are among all lines, of which these are the timers
pub record HasTimers (place : ℕ) (lines : Lines) (timers : List (Option Timer)) : Type 0 where
  pub whole : length timers ≡ PLACES * LINES_MAX
  pub at : place < PLACES
  pub within : Each (λ offset. offset < LINES_MAX) (offsets_of lines)
  pub differ : HasDifferentLines lines

-- the line at an offset of a place is one of some lines of a place
abbrev pub is_one_of : ℕ → Lines → ℕ → ℕ → Bool
is_one_of place lines other offset = other == place && list_any (nat_eq offset) (offsets_of lines)

-- Of some lines of a place the i-th is hard afterwards where the mark says so, by its position and by whether it was hard; and
-- each other line is hard where it was.
pub record MarksLines (place : ℕ) (lines : Lines) (mark : ℕ → Bool → Bool) (before after : List (Option Timer)) : Type 0 where
  pub each : (i : ℕ) → i < length (offsets_of lines)
      → hard_at after place (slice_index (offsets_of lines) i) ≡ mark i (hard_at before place (slice_index (offsets_of lines) i))
  pub others : (other offset : ℕ) → offset < LINES_MAX → is_one_of place lines other offset ≡ false → hard_at after other offset ≡ hard_at before other offset

-- the line at position i of a request with these settings is to be hard behind a driver's answer: it has a period, and its bit is set
abbrev pub is_hard_behind : Resolved → ℕ → ℕ → Bool
is_hard_behind settings bits i = is_debounced_hard (settings_of settings i) (has_bit bits i)

-- A tell of GET_LINE makes the i-th line of the request hard exactly where it has a period and bit i of the answer is set. One of
-- SET_CONFIG does so with each line that it gives a direction, and the others of the request stay hard where they were. No line of
-- a request that is let go of is hard. And each other line stays as it was.
pub record TellsMarkLines : Type 0 where
  pub requested : (w : World) (request : Request) (bits : ℕ) → HasTimers request.place request.lines w.timers
      → MarksLines request.place request.lines (λ i was. is_hard_behind request.settings bits i) w.timers (hold_claim bits request w).timers
  pub configured : (w : World) (place fd : ℕ) (lines : Lines) (before after : Resolved) (bits : ℕ) → HasTimers place lines w.timers
      → MarksLines place lines (λ i was. if is_directed after i then is_hard_behind after bits i else was) w.timers (reconfigure place fd lines before after bits w).timers
  pub released : (w : World) (request : Request) → HasTimers request.place request.lines w.timers
      → MarksLines request.place request.lines (λ i was. false) w.timers (without_request request w).timers
