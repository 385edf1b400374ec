-- The edges of a request, all of them, without bound, and the numbers of their events, after the kernel's GPIO character
-- device (`struct gpio_v2_line_event` of `linux/gpio.h`).
use Rattle.std.specs.Prelude.{ℕ, Bool, ◌≡◌, ◌+◌, ◌%◌, ◌^◌, ◌<◌, ◌==◌, if◌then◌else◌, List, [], ◌∷◌, ◌++◌, length, count_by, slice_index}
use Rattle.gl_base.specs.declared.flag.TheConstants.{EDGE_FALLING, EDGE_RISING}
use Rattle.gl_base.specs.declared.lines.Lines.{Lines}
use Rattle.gl_uapi.specs.declared.layout.TheConstants.{EVENT_FALLING, EVENT_RISING}
use Rattle.gl_uapi.specs.declared.line_events.Event.{Event}

-- the flag that has a direction monitored
abbrev pub direction_flag : Bool → ℕ
direction_flag rising = if rising then EDGE_RISING else EDGE_FALLING

-- the number that tells of a direction
abbrev pub direction_id : Bool → ℕ
direction_id rising = if rising then EVENT_RISING else EVENT_FALLING

-- an edge that is an event: when it came, its direction, and the line's offset
pub record Edge : Type 0 where
  pub timestamp : ℕ
  pub rising : Bool
  pub offset : ℕ

-- how many edges a line had
abbrev pub line_count : ℕ → List Edge → ℕ
line_count offset edges = count_by (λ edge. edge.offset == offset) edges

-- the event that an edge is, behind those before it: numbered from 1, in the request and in its line
abbrev pub event_behind : List Edge → Edge → Event
event_behind before edge = record {
  timestamp = edge.timestamp;
  id = direction_id edge.rising;
  offset = edge.offset;
  seqno = (length before + 1) % 2 ^ 32;
  line_seqno = (line_count edge.offset before + 1) % 2 ^ 32;
}

-- the events of edges that come behind some others
abbrev pub events_behind : List Edge → List Edge → List Event
events_behind before [] = []
events_behind before (edge ∷ edges) = event_behind before edge ∷ events_behind (before ++ edge ∷ []) edges

-- the events of all edges
abbrev pub events_of : List Edge → List Event
events_of edges = events_behind [] edges

-- no line stands twice among those of a request, so that the numbers of a line's events are those of one line
abbrev pub HasDifferentLines : Lines → Type 0
HasDifferentLines lines = (i j : ℕ) → i < lines.count → j < lines.count → slice_index lines.offsets i ≡ slice_index lines.offsets j → i ≡ j
