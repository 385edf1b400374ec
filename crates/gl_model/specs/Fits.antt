-- Which calls may be made: their arguments are in range, and they bring the memory and the buffer that they need.
use Rattle.std.specs.Prelude.{◌≡◌, ℕ, ◌<◌, ◌≤◌, ◌==◌, true, false, if◌then◌else◌, IsTrue, List, [], length, take, drop, Option, Some, None}
use Rattle.std.specs.List.{list_all}
use Rattle.circular_buffer.specs.Buffer.{buffer}
use Rattle.gl_base.specs.Name.{is_name}
use Rattle.gl_base.specs.declared.limits.TheConstants.{LINES_MAX, PLACES}
use Rattle.gl_uapi.specs.Command.{command_of}
use Rattle.gl_uapi.specs.declared.layout.TheConstants.{LINE_REQUEST_SIZE}
use Rattle.gl_model.specs.declared.call.Call.{Call}
use Rattle.gl_model.specs.declared.call.Call.TheVariants.{Probe, Unplug, Write, Remove, Pin, Irq, Pull, Level, Interrupt, OpenChip, Find, Ioctl, ReadEdges, ReadInfo, PollLine, PollChip, Refused as RefusedCall}
use Rattle.gl_model.specs.declared.call.Part.{Part}
use Rattle.gl_model.specs.declared.call.Part.TheVariants.{Whole, Ask, Tell}
use Rattle.gl_model.specs.declared.gift.Gift.{Gift}
use Rattle.gl_model.specs.declared.reply.Reply.{Reply}
use Rattle.gl_model.specs.declared.reply.Reply.TheVariants.{Number, Go}
use Rattle.gl_model.specs.AskedLines.{asked_by, capacity_asked, request_fault}
use Rattle.gl_model.specs.Entries.{is_get_line}

-- a number of a place
abbrev pub IsPlace : ℕ → Type 0
IsPlace place = place < PLACES

-- a place that may not be named
abbrev pub IsSomePlace : Option ℕ → Type 0
IsSomePlace None = Unit {0}
IsSomePlace (Some place) = IsPlace place

-- the bytes of a command: as many as the longest structure has, and zero from the buffer's length on
pub record FitsBytes (len : ℕ) (bytes : List ℕ) : Type 0 where
  pub whole : length bytes ≡ LINE_REQUEST_SIZE
  pub zeros : IsTrue (list_all (λ byte. byte == 0) (drop len bytes))

-- The arguments of a call are in range, and those that the world keeps as names are names. (The consumer of a request of lines
-- needs no condition: it is read from a field of 32 bytes, up to the first 0.)
abbrev pub FitsCall : Call → Type 0
FitsCall (Probe label lines kind) = (1 ≤ lines) × (lines ≤ LINES_MAX) × IsTrue (is_name label)
FitsCall (Write path value) = IsTrue (is_name value)
FitsCall (Unplug place last) = IsPlace place
FitsCall (Pin place what) = IsPlace place
FitsCall (Irq place offset what) = IsPlace place
FitsCall (Pull place offset up) = IsPlace place
FitsCall (Level place offset pull) = IsPlace place
FitsCall (Interrupt place offset up) = IsPlace place
FitsCall (Find place name) = IsSomePlace place
FitsCall (Ioctl place fd cmd len bytes part) = IsPlace place × FitsBytes len bytes
FitsCall (ReadEdges place fd len) = IsPlace place
FitsCall (ReadInfo place fd len) = IsPlace place
FitsCall (PollLine place fd) = IsPlace place
FitsCall (PollChip place fd) = IsPlace place
FitsCall (RefusedCall place poll) = IsPlace place
FitsCall _ = Unit {0}

-- What an ask of GET_LINE with this structure brings: what it asks for, or why its header or its configuration has it refused; and where
-- they have no fault an empty ring of the capacity that it states.
pub record HoldsRequest (bytes : List ℕ) (gift : Gift) : Type 0 where
  pub asked : gift.asked ≡ Some (asked_by bytes)
  pub ring : request_fault bytes ≡ None → gift.ring ≡ Some (buffer [] (capacity_asked bytes))

-- the ask of a command brings its request where it is one of GET_LINE
abbrev pub BringsRequest : ℕ → List ℕ → Part → Gift → Type 0
BringsRequest cmd bytes Whole gift = Unit {0}
BringsRequest cmd bytes Ask gift = is_get_line (command_of cmd) ≡ true → HoldsRequest (take LINE_REQUEST_SIZE bytes) gift
BringsRequest cmd bytes (Tell answer) gift = Unit {0}

-- an open brings an empty queue, and an ask of GET_LINE its request
abbrev pub FitsGift : Call → Gift → Type 0
FitsGift (OpenChip word) gift = gift.queue ≡ Some []
FitsGift (Ioctl place fd cmd len bytes part) gift = BringsRequest cmd bytes part gift
FitsGift _ gift = Unit {0}

-- The buffer has the length that the call names: two bytes for the first call of a removal. That of a command begins with
-- the bytes of the call.
abbrev pub FitsBuffer : Call → List ℕ → Type 0
FitsBuffer (Unplug place false) out = length out ≡ 2
FitsBuffer (Remove device false) out = length out ≡ 2
FitsBuffer (Ioctl place fd cmd len bytes part) out = (length out ≡ len) × (take LINE_REQUEST_SIZE out ≡ take len bytes)
FitsBuffer (ReadEdges place fd len) out = length out ≡ len
FitsBuffer (ReadInfo place fd len) out = length out ≡ len
FitsBuffer _ out = Unit {0}

-- a call may be made with this gift and this buffer
pub record Fits (call : Call) (gift : Gift) (out : List ℕ) : Type 0 where
  pub fits_call : FitsCall call
  pub brings : FitsGift call gift
  pub buffer_fits : FitsBuffer call out

-- What is left of a gift after a call with this reply: an open that was answered took the queue, an ask of GET_LINE that was
-- answered Go took the ring, and leaves what it asks for; every other call leaves the gift as it was.
abbrev pub gift_left : Call → Reply → Gift → Gift
gift_left (OpenChip word) (Number fd) gift = record gift { queue = None }
gift_left (Ioctl place fd cmd len bytes Ask) (Go number) gift = if is_get_line (command_of cmd) then record gift { ring = None } else gift
gift_left _ reply gift = gift

abbrev pub Leaves : Call → Reply → Gift → Gift → Type 0
Leaves call reply old new = new ≡ gift_left call reply old
