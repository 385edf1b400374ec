-- The ring of a request over a whole history: which edges came to it, and what the reads of it gave. From the kernel's document on
-- the GPIO character device (a full ring drops its oldest event).
use Rattle.std.specs.Prelude.{◌≡◌, ℕ, ◌≤◌, ◌/◌, ◌==◌, ◌↔◌, min, if◌then◌else◌, List, [], ◌∷◌, ◌++◌, length, map, take, drop, Some, flat_map}
use Rattle.std.specs.Option.{option_map_or}
use Rattle.circular_buffer.specs.Buffer.{buffer}
use Rattle.gl_ring.specs.Edges.{Edge, events_of}
use Rattle.gl_ring.specs.Run.{Came, IsMissing, IsSubsequence, Read, Turn, WasOvertaken, after, came, given}
use Rattle.gl_uapi.specs.LineEvent.{event_bytes}
use Rattle.gl_uapi.specs.declared.layout.TheConstants.{LINE_EVENT_SIZE}
use Rattle.gl_uapi.specs.declared.line_events.Event.{Event}
use Rattle.gl_world.specs.declared.history.Entry.{Entry}
use Rattle.gl_model.specs.declared.call.Call.{Call}
use Rattle.gl_model.specs.declared.call.Call.TheVariants.{ReadEdges}
use Rattle.gl_model.specs.declared.gift.Gift.{Gift}
use Rattle.gl_model.specs.declared.reply.Reply.{Reply}
use Rattle.gl_model.specs.declared.reply.Reply.TheVariants.{Number}
use Rattle.gl_model.specs.Machine.{Always, world_of}
use Rattle.gl_model.specs.Reading.{events_for, events_waiting}
use Rattle.gl_model.specs.Step.{step}
use Rattle.gl_model.specs.World.{World, Request, opening, request_at}

-- all edges of the request of a number, where there is one
abbrev pub edges_at : ℕ → World → List Edge
edges_at fd w = option_map_or (λ (request : Request). request.past.all) (request_at w.requests fd) []

-- a call with this reply was a read of that request, with room for so many events
abbrev pub reads_in : ℕ → Call → Reply → List (Turn Event)
reads_in fd (ReadEdges place number len) (Number count) = if number == fd then Read (len / LINE_EVENT_SIZE) ∷ [] else []
reads_in fd call reply = []

-- the events of the edges that came to it between two worlds
abbrev pub events_between : ℕ → World → World → List Event
events_between fd w v = drop (length (edges_at fd w)) (events_of (edges_at fd v))

-- what a call is to the ring of that request: a read, or the events that came
abbrev pub turns_in : ℕ → World → ℕ → Call → List (Turn Event)
turns_in fd w actor call = reads_in fd call (step w actor call).reply ++ map (λ event. Came event) (events_between fd w (step w actor call).world)

-- what such a read gave: the first events that wait, as many as fit
abbrev pub given_in : ℕ → World → Call → Reply → List Event
given_in fd w (ReadEdges place number len) (Number count) =
    if number == fd then take (min (len / LINE_EVENT_SIZE) (length (events_for fd w))) (events_for fd w) else []
given_in fd w call reply = []

module _ {K : Type 0} where
  -- what the calls of a history are to the ring of that request, in order
  abbrev pub turns_from : ℕ → World → List (Entry K Call Reply Gift) → List (Turn Event)
  turns_from fd w [] = []
  turns_from fd w (e ∷ history) = turns_in fd w e.actor e.call ++ turns_from fd (step w e.actor e.call).world history

  -- what all reads of that request gave, joined in order
  abbrev pub events_read : ℕ → World → List (Entry K Call Reply Gift) → List Event
  events_read fd w [] = []
  events_read fd w (e ∷ history) = given_in fd w e.call (step w e.actor e.call).reply ++ events_read fd (step w e.actor e.call).world history

-- A request that is there, after these turns and with what its reads gave. The events that came are those of all its edges, and
-- those that wait are what is left in a ring of its capacity. Of the edge with number k, counted from 1: it is neither read nor
-- waiting exactly where the edge with a number that is greater by the capacity came before it was read.
pub record IsRingOf (request : Request) (turns : List (Turn Event)) (read : List Event) : Type 0 where
  pub all_came : came turns ≡ events_of request.past.all
  pub waits : after (buffer [] request.capacity) turns ≡ buffer (events_waiting request) request.capacity
  pub gave : given (buffer [] request.capacity) turns ≡ read
  pub gaps : (k : ℕ) → 1 ≤ k → k ≤ length request.past.all → IsMissing request.capacity turns k ↔ WasOvertaken request.capacity turns k

-- the events that a read gave are those that it wrote
abbrev pub ReadsSpellEvents : Type 0
ReadsSpellEvents = (w : World) (actor place fd len : ℕ)
    → let out = step w actor (ReadEdges place fd len) in out.bytes ≡ flat_map event_bytes (given_in fd w (ReadEdges place fd len) out.reply)

module _ {K : Type 0} (stands_for : K → World → Type 0) where
  -- Behind every legal history, whatever happens: what all reads of the request of a number gave, joined in order, are some of the
  -- events that came to it, in order, be it there still or closed since.
  abbrev pub ReadsInOrder : Type 0
  ReadsInOrder = Always stands_for (λ history. (fd : ℕ) → IsSubsequence (events_read fd opening history) (came (turns_from fd opening history)))

  -- Behind every legal history, whatever happens: while the request of a number is there, what is missing of its edges is what a
  -- full ring dropped.
  abbrev pub GapsAreOldest : Type 0
  GapsAreOldest = Always stands_for (λ history. (fd : ℕ) (request : Request) → request_at (world_of stands_for history).requests fd ≡ Some request
      → IsRingOf request (turns_from fd opening history) (events_read fd opening history))
