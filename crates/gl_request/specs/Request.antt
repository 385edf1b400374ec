-- The requests of lines, after the kernel's GPIO character device. A table has a row for each request, in the
-- order of their claims. Numbers are given out in rising order, so this is the order of their numbers too.
use Rattle.std.specs.Prelude.{ℕ, ◌≡◌, ◌≤◌, Bool, false, true, ◌+◌, ◌%◌, ◌^◌, ◌&&◌, ◌==◌, not, nat_lt, if◌then◌else◌, List, length, map, nat_eq, Option, Some, None, find, position, replicate, slice_index, slice_index_or, slice_set, ◌<◌, [], ◌∷◌}
use Rattle.std.specs.List.{IsDistinct}
use Rattle.circular_buffer.specs.Buffer.{Buffer}
use Rattle.gl_base.specs.Bits.{has_bit}
use Rattle.gl_base.specs.Lines.{IsLineCount}
use Rattle.gl_base.specs.Rows.{Each}
use Rattle.gl_base.specs.Settings.{no_settings}
use Rattle.gl_base.specs.declared.limits.TheConstants.{LINES_PER_REQUEST}
use Rattle.gl_base.specs.declared.settings.Resolved.{Resolved}
use Rattle.gl_base.specs.declared.settings.Settings.{Settings}
use Rattle.gl_uapi.specs.declared.line_events.Event.{Event}
use Rattle.gl_ring.specs.Edges.{direction_flag, direction_id}
use Rattle.gl_ring.specs.Waiting.{left, pushed}
use Rattle.gl_ring.specs.declared.ring.TheConstants.{RING_EVENTS_MAX}
use Rattle.gl_request.specs.declared.row.Claim.{Claim}
use Rattle.gl_request.specs.declared.row.RequestAt.{RequestAt}
use Rattle.gl_request.specs.declared.row.RequestRow.{RequestRow}

-- the request has this number
abbrev pub is_number : ℕ → RequestRow → Bool
is_number fd row = row.fd == fd

-- the request's number is below this one
abbrev pub IsBelow : ℕ → RequestRow → Type 0
IsBelow fd row = row.fd < fd

-- rows in the order of their numbers, each above those before
abbrev pub AreRising : List RequestRow → Type 0
AreRising [] = Unit {0}
AreRising (row ∷ rows) = Each (λ other. row.fd < other.fd) rows × AreRising rows

-- the request of a number
abbrev pub request_at : List RequestRow → ℕ → Option RequestRow
request_at rows fd = find (is_number fd) rows

-- the request of this number stands there
abbrev pub StandsAt : RequestAt → List RequestRow → Type 0
StandsAt found rows = position (is_number found.fd) rows ≡ Some found.at

-- the requests have different numbers
abbrev pub HaveDifferentNumbers : List RequestRow → Type 0
HaveDifferentNumbers rows = IsDistinct nat_eq (map (λ (row : RequestRow). row.fd) rows)

-- a request, where there is one, is finished and of this place
abbrev pub is_open_at : ℕ → Option RequestRow → Bool
is_open_at place None = false
is_open_at place (Some row) = row.held && row.place == place

-- it is an unfinished claim of this actor
abbrev pub is_claim_of : ℕ → RequestRow → Bool
is_claim_of actor row = not row.held && row.actor == actor

-- an unfinished claim of an actor
abbrev pub claim_by : List RequestRow → ℕ → Option RequestRow
claim_by rows actor = find (is_claim_of actor) rows

-- no event of any line yet
unfoldable pub no_counts : List ℕ
no_counts = replicate LINES_PER_REQUEST 0

-- what a claim begins as
abbrev pub row_of : Claim → Buffer Event → RequestRow
row_of claim ring = record {
  fd = claim.fd;
  place = claim.place;
  actor = claim.actor;
  held = false;
  lines = claim.lines;
  settings = claim.settings;
  ring = ring;
  count = 0;
  line_counts = no_counts;
}

-- what a request was claimed as, with its settings as they are now
abbrev pub claim_of : RequestRow → Claim
claim_of row = record { fd = row.fd; place = row.place; actor = row.actor; lines = row.lines; settings = row.settings }

-- the request, finished
abbrev pub held : RequestRow → RequestRow
held row = record row { held = true }

-- the request with other settings
abbrev pub configured : Resolved → RequestRow → RequestRow
configured settings row = record row { settings = settings }

-- the settings of the line at position i of the request, if it has so many
abbrev pub settings_at : ℕ → RequestRow → Option Settings
settings_at i row = if nat_lt i row.lines.count then Some (slice_index_or row.settings.lines i no_settings) else None

-- the direction of the line at position i is monitored
abbrev pub is_monitored : ℕ → Bool → RequestRow → Bool
is_monitored i rising row = has_bit (slice_index_or row.settings.lines i no_settings).flags (direction_flag rising)

-- the number after this one; numbers wrap
abbrev pub next_number : ℕ → ℕ
next_number n = (n + 1) % 2 ^ 32

-- the event that an edge of the line at position i is: numbered when it happens
abbrev pub numbered : ℕ → Bool → ℕ → RequestRow → Event
numbered i rising timestamp row = record {
  timestamp = timestamp;
  id = direction_id rising;
  offset = slice_index row.lines.offsets i;
  seqno = next_number row.count;
  line_seqno = next_number (slice_index row.line_counts i);
}

-- the request after that event
abbrev pub with_event : ℕ → Bool → ℕ → RequestRow → RequestRow
with_event i rising timestamp row = record row {
  ring = pushed (numbered i rising timestamp row) row.ring;
  count = next_number row.count;
  line_counts = slice_set row.line_counts i (next_number (slice_index row.line_counts i));
}

-- the event that an edge is, if its direction is monitored
abbrev pub event_of : ℕ → Bool → ℕ → RequestRow → Option Event
event_of i rising timestamp row = if is_monitored i rising row then Some (numbered i rising timestamp row) else None

-- the request after an edge
abbrev pub noted : ℕ → Bool → ℕ → RequestRow → RequestRow
noted i rising timestamp row = if is_monitored i rising row then with_event i rising timestamp row else row

-- the request after a read with room for so many events
abbrev pub read_from : ℕ → RequestRow → RequestRow
read_from max row = record row { ring = left max row.ring }

-- the request has 1 to 64 lines with a slot for each, and room for 1 to 1024 events
abbrev pub HasLines : RequestRow → Type 0
HasLines row = IsLineCount row.lines.count × (length row.lines.offsets ≡ LINES_PER_REQUEST) × (1 ≤ row.ring.capacity) × (row.ring.capacity ≤ RING_EVENTS_MAX)
