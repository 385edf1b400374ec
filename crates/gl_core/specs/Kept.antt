-- What the core keeps of a world. All of it but the edges of the requests: of these it keeps the events that wait, and how
-- many there were, as far as numbers of 32 bits go (`seqno` and `line_seqno` of `linux/gpio.h`).
use Rattle.std.specs.Prelude.{◌≡◌, ℕ, ◌%◌, ◌^◌, nat_lt, if◌then◌else◌, List, length, map, slice_index, Option}
use Rattle.circular_buffer.specs.Buffer.{buffer}
use Rattle.gl_base.specs.Positions.{table_from}
use Rattle.gl_base.specs.declared.limits.TheConstants.{LINES_PER_REQUEST}
use Rattle.gl_debounce.specs.declared.timer.Timer.{Timer}
use Rattle.gl_registry.specs.declared.registry.Chip.{Chip}
use Rattle.gl_request.specs.declared.row.RequestRow.{RequestRow}
use Rattle.gl_ring.specs.Edges.{line_count}
use Rattle.gl_simtree.specs.declared.row.TreeRow.{TreeRow}
use Rattle.gl_watch.specs.declared.file.ChipFile.{ChipFile}
use Rattle.gl_model.specs.declared.place.Origin.{Origin}
use Rattle.gl_model.specs.declared.place.Place.{Place}
use Rattle.gl_model.specs.Reading.{events_waiting}
use Rattle.gl_model.specs.SoundRequests.{HasSoundRequests}
use Rattle.gl_model.specs.World.{World, Request}

-- the world's rows, with requests as they are kept
pub record Kept : Type 0 where
  pub chips : List Chip
  pub origins : List Origin
  pub places : List Place
  pub timers : List (Option Timer)
  pub requests : List RequestRow
  pub files : List ChipFile
  pub tree : List TreeRow
  pub next : ℕ
  pub mono : ℕ
  pub real : ℕ

-- how many events the line at position i of a request had, modulo 2^32
abbrev pub kept_count : Request → ℕ → ℕ
kept_count request i =
    if nat_lt i request.lines.count then line_count (slice_index request.lines.offsets i) request.past.all % 2 ^ 32 else 0

-- a request as it is kept
abbrev pub kept_request : Request → RequestRow
kept_request request = record {
  fd = request.fd;
  place = request.place;
  actor = request.actor;
  held = request.held;
  lines = request.lines;
  settings = request.settings;
  ring = buffer (events_waiting request) request.capacity;
  count = length request.past.all % 2 ^ 32;
  line_counts = table_from (kept_count request) 0 LINES_PER_REQUEST;
}

-- a world as it is kept
abbrev pub kept_of : World → Kept
kept_of w = record {
  chips = w.chips;
  origins = w.origins;
  places = w.places;
  timers = w.timers;
  requests = map kept_request w.requests;
  files = w.files;
  tree = w.tree;
  next = w.next;
  mono = w.mono;
  real = w.real;
}

-- what is kept stands for a world
pub record StandsFor (kept : Kept) (w : World) : Type 0 where
  pub kept_so : kept_of w ≡ kept
  pub sound_requests : HasSoundRequests w
