-- The world: all that the machine knows, as plain data. A place is a position in a list, and so is the offset of a line. What
-- there is to know is that of the kernel's documents on the GPIO character device, on GPIO drivers and on gpio-sim.
use Rattle.std.specs.Prelude.{ℕ, Bool, ◌==◌, List, [], Option}
use Rattle.std.specs.List.{find}
use Rattle.gl_base.specs.declared.lines.Lines.{Lines}
use Rattle.gl_base.specs.declared.settings.Resolved.{Resolved}
use Rattle.gl_debounce.specs.Timer.{no_timers}
use Rattle.gl_debounce.specs.declared.timer.Timer.{Timer}
use Rattle.gl_registry.specs.declared.registry.Chip.{Chip}
use Rattle.gl_ring.specs.Edges.{Edge}
use Rattle.gl_ring.specs.Waiting.{Past}
use Rattle.gl_simtree.specs.declared.row.TreeRow.{TreeRow}
use Rattle.gl_watch.specs.declared.file.ChipFile.{ChipFile}
use Rattle.gl_model.specs.declared.place.Origin.{Origin}
use Rattle.gl_model.specs.declared.place.Place.{Place}

-- A request of lines, with the number of its file: a claim of its lines, or a hold of them. Its past are all the edges
-- since it was held, without bound, and how many of the first of them no longer wait.
pub record Request : Type 0 where
  pub fd : ℕ
  pub place : ℕ
  pub actor : ℕ
  pub held : Bool
  pub lines : Lines
  pub settings : Resolved
  pub capacity : ℕ
  pub past : Past Edge

pub record World : Type 0 where
  -- by place: the chip, where it comes from and who removes it, and the tables of its lines
  pub chips : List Chip
  pub origins : List Origin
  pub places : List Place
  -- the timers of all lines, by place and offset
  pub timers : List (Option Timer)
  -- the requests and the chip files, each in the order in which they were made
  pub requests : List Request
  pub files : List ChipFile
  -- the directories of the tree
  pub tree : List TreeRow
  -- the number of the next file
  pub next : ℕ
  -- the monotonic and the real clock, in nanoseconds
  pub mono : ℕ
  pub real : ℕ

-- The world of a new machine. Files are numbered from 3 on: this project's choice, after the three standard streams.
abbrev pub opening : World
opening = record {
  chips = [];
  origins = [];
  places = [];
  timers = no_timers;
  requests = [];
  files = [];
  tree = [];
  next = 3;
  mono = 0;
  real = 0;
}

-- the request has this number
abbrev pub has_number : ℕ → Request → Bool
has_number fd request = request.fd == fd

-- the request of a number
abbrev pub request_at : List Request → ℕ → Option Request
request_at requests fd = find (has_number fd) requests
