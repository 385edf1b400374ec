-- What a read takes: just what it gives, the first of what waits, as many whole items as fit, and of its own file alone.
use Rattle.std.specs.Prelude.{◌≡◌, ◌≢◌, ◌*◌, ◌/◌, ℕ, Bool, true, min, List, ◌∷◌, ◌++◌, length, flat_map, None, find}
use Rattle.gl_uapi.specs.InfoChanged.{changed_bytes}
use Rattle.gl_uapi.specs.LineEvent.{event_bytes}
use Rattle.gl_uapi.specs.declared.layout.TheConstants.{INFO_CHANGED_SIZE, LINE_EVENT_SIZE}
use Rattle.gl_uapi.specs.declared.info_changes.Changed.{Changed}
use Rattle.gl_watch.specs.Files.{is_file}
use Rattle.gl_watch.specs.declared.file.ChipFile.{ChipFile}
use Rattle.gl_model.specs.declared.call.Call.TheVariants.{ReadEdges, ReadInfo}
use Rattle.gl_model.specs.declared.reply.Reply.{Reply}
use Rattle.gl_model.specs.declared.reply.Reply.TheVariants.{Done, Number, Go, Found, Text, Ready, Refused}
use Rattle.gl_model.specs.Outcome.{Outcome}
use Rattle.gl_model.specs.Reading.{changes_for, events_for}
use Rattle.gl_model.specs.Step.{step}
use Rattle.gl_model.specs.World.{World, Request, has_number}

-- the reply is a number of which this holds, or a refusal, and no other reply
abbrev pub OnNumberOrRefusal : Reply → (ℕ → Type 0) → Type 0
OnNumberOrRefusal Done P = ⊥
OnNumberOrRefusal (Number n) P = P n
OnNumberOrRefusal (Go fd) P = ⊥
OnNumberOrRefusal (Found place offset count) P = ⊥
OnNumberOrRefusal (Text text) P = ⊥
OnNumberOrRefusal (Ready bits) P = ⊥
OnNumberOrRefusal (Refused errno) P = Unit {0}

-- Of the items that waited, a read of `len` bytes gave the first, and the others wait still. It gave as many as waited and had
-- room, wrote their bytes, and answered how many bytes they have.
pub record Takes {X : Type 0} (spell : X → List ℕ) (size len : ℕ) (before after : List X) (bytes : List ℕ) (n : ℕ) : Type 0 where
  pub given : List X
  pub in_order : before ≡ given ++ after
  pub as_many : length given ≡ min (len / size) (length before)
  pub spelled : bytes ≡ flat_map spell given
  pub number : n ≡ size * length given

-- One row of a table was changed: the first that passes a test, as none in front of it does. The rows in front of it and those
-- after it stay.
pub record ChangesOne {X : Type 0} (test : X → Bool) (change : X → X) (before after : List X) : Type 0 where
  pub front : List X
  pub row : X
  pub back : List X
  pub passes : test row ≡ true
  pub none_in_front : find test front ≡ None
  pub was : before ≡ front ++ row ∷ back
  pub is_now : after ≡ front ++ change row ∷ back

-- the request with another number of edges that no longer wait
abbrev pub with_next : ℕ → Request → Request
with_next next request = record request { past = record { all = request.past.all; next = next } }

-- A read of a request takes the events that it gives. The events of every other request wait as before: of the requests, just
-- this one is changed, and of it just how many of its edges no longer wait. All else of the world stays.
pub record TakesEvents (fd len : ℕ) (w : World) (out : Outcome) (n : ℕ) : Type 0 where
  pub takes : Takes event_bytes LINE_EVENT_SIZE len (events_for fd w) (events_for fd out.world) out.bytes n
  pub others_wait : (other : ℕ) → other ≢ fd → events_for other out.world ≡ events_for other w
  pub next : ℕ
  pub one_request_changes : ChangesOne (has_number fd) (with_next next) w.requests out.world.requests
  pub all_else_stays : out.world ≡ record w { requests = out.world.requests }

-- a read of a request answers a number or a refusal, and by a number it takes just the events that it gives
abbrev pub ReadsTakeEvents : Type 0
ReadsTakeEvents = (w : World) (actor place fd len : ℕ) →
    let out = step w actor (ReadEdges place fd len) in OnNumberOrRefusal out.reply (TakesEvents fd len w out)

-- the chip file with another queue of changes
abbrev pub with_queue : List Changed → ChipFile → ChipFile
with_queue queue file = record file { changes = queue }

-- A read of a chip file takes the changes that it gives. The changes of every other chip file wait as before: of the files,
-- just this one is changed, and of it just its queue. All else of the world stays.
pub record TakesChanges (fd len : ℕ) (w : World) (out : Outcome) (n : ℕ) : Type 0 where
  pub takes : Takes changed_bytes INFO_CHANGED_SIZE len (changes_for fd w) (changes_for fd out.world) out.bytes n
  pub others_wait : (other : ℕ) → other ≢ fd → changes_for other out.world ≡ changes_for other w
  pub queue : List Changed
  pub one_file_changes : ChangesOne (is_file fd) (with_queue queue) w.files out.world.files
  pub all_else_stays : out.world ≡ record w { files = out.world.files }

-- a read of a chip file answers a number or a refusal, and by a number it takes just the changes that it gives
abbrev pub ReadsTakeChanges : Type 0
ReadsTakeChanges = (w : World) (actor place fd len : ℕ) →
    let out = step w actor (ReadInfo place fd len) in OnNumberOrRefusal out.reply (TakesChanges fd len w out)
