-- Reads and polls of open files, from the kernel's document on the GPIO character device: whole items, as many as wait and
-- fit. Which refusal comes first is this project's choice.
use Rattle.std.specs.Prelude.{ℕ, ◌*◌, ◌/◌, ◌==◌, min, nat_lt, if◌then◌else◌, List, [], ◌∷◌, length, take, Option, flat_map}
use Rattle.std.specs.Option.{option_map_or}
use Rattle.gl_base.specs.Refusals.{first_of, when}
use Rattle.gl_base.specs.Rows.{change_first}
use Rattle.gl_base.specs.declared.errno.Errno.{Errno}
use Rattle.gl_base.specs.declared.errno.Errno.TheVariants.{Again, Inval}
use Rattle.gl_ring.specs.Edges.{events_of}
use Rattle.gl_ring.specs.Waiting.{read_by, waiting}
use Rattle.gl_uapi.specs.InfoChanged.{changed_bytes}
use Rattle.gl_uapi.specs.LineEvent.{event_bytes}
use Rattle.gl_uapi.specs.declared.info_changes.Changed.{Changed}
use Rattle.gl_uapi.specs.declared.layout.TheConstants.{INFO_CHANGED_SIZE, LINE_EVENT_SIZE}
use Rattle.gl_uapi.specs.declared.line_events.Event.{Event}
use Rattle.gl_watch.specs.Files.{file_at, is_file, waiting_in, without_changes}
use Rattle.gl_model.specs.declared.reply.Reply.TheVariants.{Number, Ready}
use Rattle.gl_model.specs.OpenFiles.{chip_file_refusal, request_file_refusal}
use Rattle.gl_model.specs.Outcome.{Outcome, replies, refused_or}
use Rattle.gl_model.specs.World.{World, Request, has_number, request_at}

-- the events of a request that wait: of all its events those that no read has taken and no full ring has dropped
abbrev pub events_waiting : Request → List Event
events_waiting request = waiting (record { all = events_of request.past.all; next = request.past.next })

-- the events that wait for the request of a number
abbrev pub events_for : ℕ → World → List Event
events_for fd w = option_map_or events_waiting (request_at w.requests fd) []

-- the request after a read with room for so many events
abbrev pub read_from : ℕ → Request → Request
read_from max request = record request { past = read_by max request.past }

-- why a read is refused, first case first: the buffer is shorter than one item; nothing waits
abbrev pub read_refusal : ℕ → ℕ → ℕ → Option Errno
read_refusal size len count = first_of (when (nat_lt len size) Inval ∷ when (count == 0) Again ∷ [])

-- the first events that wait are taken and written, as many as fit in the buffer
abbrev pub take_events : ℕ → ℕ → World → Outcome
take_events fd len w =
    let room = len / LINE_EVENT_SIZE in
    let count = min room (length (events_for fd w)) in
    record {
      world = record w { requests = change_first (has_number fd) (read_from room) w.requests };
      reply = Number (LINE_EVENT_SIZE * count);
      bytes = flat_map event_bytes (take count (events_for fd w));
    }

-- a read of a request into a buffer of `len` bytes
abbrev pub read_edges : ℕ → ℕ → ℕ → World → Outcome
read_edges place fd len w =
    refused_or (first_of (request_file_refusal place fd w ∷ read_refusal LINE_EVENT_SIZE len (length (events_for fd w)) ∷ [])) w
    (take_events fd len w)

-- the changes that wait for the chip file of a number
abbrev pub changes_for : ℕ → World → List Changed
changes_for fd w = waiting_in (file_at fd w.files)

-- the first changes that wait are taken and written, as many as fit in the buffer
abbrev pub take_changes : ℕ → ℕ → World → Outcome
take_changes fd len w =
    let count = min (len / INFO_CHANGED_SIZE) (length (changes_for fd w)) in
    record {
      world = record w { files = change_first (is_file fd) (without_changes count) w.files };
      reply = Number (INFO_CHANGED_SIZE * count);
      bytes = flat_map changed_bytes (take count (changes_for fd w));
    }

-- a read of a chip file into a buffer of `len` bytes
abbrev pub read_info : ℕ → ℕ → ℕ → World → Outcome
read_info place fd len w =
    refused_or (first_of (chip_file_refusal place fd w ∷ read_refusal INFO_CHANGED_SIZE len (length (changes_for fd w)) ∷ [])) w
    (take_changes fd len w)

-- what a poll answers where so many items wait: bit 0, which tells that a read finds something, or nothing
abbrev pub readiness : ℕ → ℕ
readiness count = if count == 0 then 0 else 1

-- a poll of a request
abbrev pub poll_line : ℕ → ℕ → World → Outcome
poll_line place fd w = refused_or (request_file_refusal place fd w) w (replies (Ready (readiness (length (events_for fd w)))) w)

-- a poll of a chip file
abbrev pub poll_chip : ℕ → ℕ → World → Outcome
poll_chip place fd w = refused_or (chip_file_refusal place fd w) w (replies (Ready (readiness (length (changes_for fd w)))) w)
