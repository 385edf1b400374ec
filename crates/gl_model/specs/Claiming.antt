-- GET_LINE: lines are claimed when they are asked for, and held when the driver has answered. From `linux/gpio.h` and the
-- kernel's documents on the GPIO character device and on GPIO drivers (interrupt locks). The two entries, and which
-- refusal comes first, are this project's choice.
use Rattle.std.specs.Prelude.{ℕ, ◌+◌, Bool, true, false, not, ◌==◌, ◌&&◌, is_some, if◌then◌else◌, List, [], ◌∷◌, ◌++◌, take, slice_index, Option, Some, None, find}
use Rattle.std.specs.Option.{option_and_then, option_map}
use Rattle.gl_base.specs.Lines.{offsets_of}
use Rattle.gl_base.specs.Positions.{change_each, first_fault}
use Rattle.gl_base.specs.Refusals.{first_of, when}
use Rattle.gl_base.specs.Rows.{change_first, without_first}
use Rattle.gl_base.specs.declared.errno.Errno.{Errno}
use Rattle.gl_base.specs.declared.errno.Errno.TheVariants.{Busy, Inval, Io}
use Rattle.gl_desc.specs.Desc.{claimed, first_desc, freed, line_fault, settled}
use Rattle.gl_desc.specs.declared.desc.Desc.{Desc}
use Rattle.gl_desc.specs.declared.desc.LineFault.{LineFault}
use Rattle.gl_desc.specs.declared.desc.LineFault.TheVariants.{BadOffset, Busy as BusyLine}
use Rattle.gl_irq.specs.Irq.{irq_at}
use Rattle.gl_pins.specs.Pins.{is_held}
use Rattle.gl_uapi.specs.Fields.{number_bytes, overwritten}
use Rattle.gl_uapi.specs.declared.layout.TheConstants.{CHANGED_REQUESTED, REQUEST_FD}
use Rattle.gl_model.specs.declared.place.Place.{Place}
use Rattle.gl_model.specs.declared.reply.Reply.TheVariants.{Go, Number}
use Rattle.gl_model.specs.AskedLines.{AskedLines, asked_in, request_fault}
use Rattle.gl_model.specs.Configuring.{configure_each, interrupt_fault, settings_of}
use Rattle.gl_model.specs.Notify.{notify_each}
use Rattle.gl_model.specs.OpenFiles.{number_refusal}
use Rattle.gl_model.specs.Outcome.{Outcome, refused, replies, refused_or}
use Rattle.gl_model.specs.Places.{place_at, with_place}
use Rattle.gl_model.specs.World.{World, Request, has_number, request_at}

-- the error of a line that can't be claimed
abbrev pub errno_of : LineFault → Errno
errno_of BadOffset = Inval
errno_of BusyLine = Busy

-- What is wrong with the line at position i of a request, first case first: the chip has no such line; somebody has the line,
-- or it stands earlier in the request; its pin is held for another function; it is to tell of edges and has no interrupt;
-- it is to be an output and is locked as an enabled interrupt.
abbrev pub line_refusal : Place → AskedLines → ℕ → Option Errno
line_refusal place asked i =
    let offset = slice_index asked.lines.offsets i in
    first_of
    (option_map errno_of (line_fault place.descs asked.lines.offsets i)
    ∷ when (is_held place.pins offset) Busy
    ∷ interrupt_fault (settings_of asked.settings i) (irq_at place.irqs offset)
    ∷ [])

-- an unfinished claim of this actor
abbrev pub is_claim_of : ℕ → Request → Bool
is_claim_of actor request = not request.held && request.actor == actor

-- the number of an actor's unfinished claim
abbrev pub claim_number : List Request → ℕ → Option ℕ
claim_number requests actor = option_map (λ request. request.fd) (find (is_claim_of actor) requests)

-- the unfinished claim of an actor
abbrev pub claim_by : List Request → ℕ → Option Request
claim_by requests actor = option_and_then (request_at requests) (claim_number requests actor)

-- why a request is refused in a world, first case first: no more file can be open; the actor's last claim is unfinished;
-- one of the lines, in order
abbrev pub claim_refusal : ℕ → ℕ → AskedLines → World → Option Errno
claim_refusal place actor asked w = first_of
    (number_refusal w
    ∷ when (is_some (claim_number w.requests actor)) Busy
    ∷ first_fault (line_refusal (place_at w place) asked) 0 asked.lines.count
    ∷ [])

-- a new claim
abbrev pub new_claim : ℕ → ℕ → ℕ → AskedLines → Request
new_claim fd place actor asked = record {
  fd = fd;
  place = place;
  actor = actor;
  held = false;
  lines = asked.lines;
  settings = asked.settings;
  capacity = asked.capacity;
  past = record { all = []; next = 0 };
}

-- the tables of a place with the holders of some lines changed
abbrev pub with_descs : List ℕ → (Desc → Desc) → Place → Place
with_descs offsets f place = record place { descs = change_each first_desc offsets f place.descs }

-- the world in which the lines are claimed, by a request of the next number
abbrev pub claim_lines : ℕ → ℕ → AskedLines → World → World
claim_lines place actor asked w =
    with_place place (with_descs (offsets_of asked.lines) (claimed w.next asked.consumer))
    (record w { requests = w.requests ++ new_claim w.next place actor asked ∷ []; next = w.next + 1 })

-- what a request asks for is claimed, or refused
abbrev pub claim : ℕ → ℕ → AskedLines → World → Outcome
claim place actor asked w = refused_or (claim_refusal place actor asked w) w (replies (Go w.next) (claim_lines place actor asked w))

-- GET_LINE is asked for: what the bytes alone decide comes first
abbrev pub get_line_ask : ℕ → ℕ → List ℕ → World → Outcome
get_line_ask place actor bytes w = refused_or (request_fault bytes) w (claim place actor (asked_in bytes) w)

-- the claim is finished
abbrev pub held : Request → Request
held request = record request { held = true }

-- the world without the claim: its lines are free again
abbrev pub drop_claim : Request → World → World
drop_claim request w =
    with_place request.place (with_descs (offsets_of request.lines) freed)
    (record w { requests = without_first (has_number request.fd) w.requests })

-- the world in which the claim is a hold: its lines are held, configured behind the driver's answer, and told of as requested,
-- each in order
abbrev pub hold_claim : ℕ → Request → World → World
hold_claim bits request w =
    notify_each request.place (offsets_of request.lines) CHANGED_REQUESTED
    (configure_each request.place request.lines request.settings bits
    (with_place request.place (with_descs (offsets_of request.lines) settled)
    (record w { requests = change_first (has_number request.fd) held w.requests })))

-- the unfinished claim, if it is of this place
abbrev pub claim_at : ℕ → Option Request → Option Request
claim_at place None = None
claim_at place (Some request) = if request.place == place then Some request else None

-- the bytes of a request with its file's number, as far as the buffer goes
abbrev pub with_fd : ℕ → ℕ → List ℕ → List ℕ
with_fd len fd bytes = take len (overwritten REQUEST_FD (number_bytes 4 fd) bytes)

-- The driver has answered: without a claim nothing is told; where the driver failed, the claim is gone, and this is the one
-- refusal that changes the world; else the lines are held, and the file's number is written.
abbrev pub told_claim : Option ℕ → ℕ → List ℕ → Option Request → World → Outcome
told_claim answer len bytes None w = refused Inval w
told_claim None len bytes (Some request) w = refused Io (drop_claim request w)
told_claim (Some bits) len bytes (Some request) w =
    record { world = hold_claim bits request w; reply = Number request.fd; bytes = with_fd len request.fd bytes }

-- GET_LINE is told what the driver answered: this actor's unfinished claim at this place alone decides
abbrev pub get_line_tell : ℕ → ℕ → Option ℕ → ℕ → List ℕ → World → Outcome
get_line_tell place actor answer len bytes w = told_claim answer len bytes (claim_at place (claim_by w.requests actor)) w
