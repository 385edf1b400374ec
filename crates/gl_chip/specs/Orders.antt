-- Any call of the device as one value, and how it comes out.
use Rattle.std.specs.Prelude.{◌≡◌, ◌⊎◌, ◌↔◌, ℕ, ◌<◌, ◌^◌, true, false, List, ◌++◌, length, take, drop, Option, None, Some, Result, Ok, Err, IfOk}
use Rattle.gl_base.specs.declared.errno.Errno.{Errno}
use Rattle.gl_base.specs.declared.errno.Errno.TheVariants.{Full, NoDev, NoMemory}
use Rattle.gl_base.specs.declared.lines.Lines.{Lines}
use Rattle.gl_driver.specs.declared.map.Map.{Map}
use Rattle.gl_driver.specs.Told.{Told}
use Rattle.gl_base.specs.declared.op.Op.{Op}
use Rattle.gl_uapi.specs.Command.{command_of}
use Rattle.gl_uapi.specs.declared.commands.Command.TheVariants.{SetConfig}
use Rattle.gl_uapi.specs.declared.layout.TheConstants.{LINE_REQUEST_SIZE}
use Rattle.gl_gate.specs.Calls.{KnowsClosed, KnowsDrained, KnowsTheSame}
use Rattle.gl_model.specs.declared.device_call.CommandIn.{CommandIn}
use Rattle.gl_model.specs.declared.device_call.DeviceCall.{DeviceCall}
use Rattle.gl_model.specs.declared.device_call.DeviceCall.TheVariants.{Once, Removing, Commanding}
use Rattle.gl_model.specs.declared.device_call.RemovalOf.{RemovalOf}
use Rattle.gl_model.specs.declared.device_call.RemovalOf.TheVariants.{OfChip, OfDevice}
use Rattle.gl_model.specs.declared.gift.Gift.{Gift}
use Rattle.gl_model.specs.declared.reply.Reply.{Reply}
use Rattle.gl_model.specs.declared.reply.Reply.TheVariants.{Number, Refused}
use Rattle.gl_model.specs.AskedLines.{lines_asked}
use Rattle.gl_model.specs.Entries.{guarded_place, is_done}
use Rattle.gl_model.specs.Fits.{FitsBuffer, FitsGift, HoldsRequest}
use Rattle.gl_model.specs.Parts.{is_driver_asked}
use Rattle.gl_model.specs.Step.{guard_reply}
use Rattle.gl_asking.specs.declared.kinds.Answered.{Answered}
use Rattle.gl_asking.specs.declared.kinds.FileKind.{FileKind}
use Rattle.gl_asking.specs.declared.kinds.FileKind.TheVariants.{Chip, Request}
use Rattle.gl_asking.specs.Fitting.{FitsDevice}
use Rattle.gl_asking.specs.Handed.{command_in}
use Rattle.gl_asking.specs.Rows.{HasLines, is_chip}
use Rattle.gl_chip.specs.declared.held.Answer.{Answer}
use Rattle.gl_chip.specs.declared.orders.Order.{Order}
use Rattle.gl_chip.specs.Answering.{AnswersInOrder, ConfiguresInOrder, RequestsInOrder, WasLetIn}
use Rattle.gl_chip.specs.Called.{HasCalled}
use Rattle.gl_chip.specs.Calling.{Answers, KnowsBy, WroteBy}
use Rattle.gl_chip.specs.DriverCommands.{HasCommanded, IsOp, TakesMemory}
use Rattle.gl_asking.specs.Driving.{op_for}
use Rattle.gl_asking.specs.Results.{value_of}
use Rattle.gl_chip.specs.Opened.{LastFinds}
use Rattle.gl_chip.specs.Removals.{AllDrained, RemovedBy, is_gone_outside}
use Rattle.gl_chip.specs.Steps.{FoundNoRoom}
use Rattle.gl_chip.specs.Values.{ActorValue, FollowsRelation, OneView, OwnRelation}
use Rattle.gl_core.specs.Device.{core}
use Rattle.gl_core.specs.Memory.{CallTakesMemory}

-- the lines that a command is on: on a chip those that its structure names, on a request the request's
abbrev pub lines_on : FileKind → CommandIn → Lines
lines_on Chip c = lines_asked (take LINE_REQUEST_SIZE c.bytes)
lines_on (Request lines) c = lines

-- what the driver is asked for a call, where it is asked
abbrev pub op_ordered : DeviceCall → FileKind → Option Op
op_ordered (Once call) on = None
op_ordered (Removing removal) on = None
op_ordered (Commanding c) on = op_for (lines_on on c) c

-- a command is on a file of its own kind
abbrev pub FitsFile : DeviceCall → FileKind → Type 0
FitsFile (Once call) on = Unit {0}
FitsFile (Removing removal) on = Unit {0}
FitsFile (Commanding c) on = (c.of_chip ≡ is_chip on) × HasLines on

-- and is handed in with its buffer
abbrev pub FitsOut : DeviceCall → List ℕ → Type 0
FitsOut (Once call) out = FitsBuffer call out
FitsOut (Removing removal) out = Unit {0}
FitsOut (Commanding c) out = c ≡ command_in c.place c.fd c.of_chip c.cmd out

-- A call may be made on a file of this kind, with this buffer.
pub record FitsOrder (call : DeviceCall) (on : FileKind) (out : List ℕ) : Type 0 where
  pub device : FitsDevice call
  pub file : FitsFile call on
  pub buffer : FitsOut call out

-- What a call brings: one call of the machine its own memory; a command on a chip that asks the driver, which is GET_LINE, its request.
abbrev pub Brings : DeviceCall → Gift → Type 0
Brings (Once call) gift = FitsGift call gift
Brings (Removing removal) gift = Unit {0}
Brings (Commanding c) gift = c.of_chip ≡ true → is_driver_asked c.of_chip c.len (command_of c.cmd) ≡ true → HoldsRequest (take LINE_REQUEST_SIZE c.bytes) gift

-- what a call wrote stands at the start of its buffer; a removal writes into none
abbrev pub WroteTo : DeviceCall → List ℕ → List ℕ → List ℕ → Type 0
WroteTo (Once call) bytes old new = new ≡ bytes ++ drop (length bytes) old
WroteTo (Removing removal) bytes old new = new ≡ old
WroteTo (Commanding c) bytes old new = new ≡ bytes ++ drop (length bytes) old

-- The form of what a call is answered: of one call of the machine by its guard; of a removal that isn't done, why; of a command a number
-- only where it has made a request.
abbrev pub AnswersOrder : DeviceCall → FileKind → Reply → Type 0
AnswersOrder (Once call) on reply = Answers (guarded_place call) call reply
AnswersOrder (Removing removal) on reply = is_done reply ≡ false → (errno : Errno) × (reply ≡ Refused errno)
AnswersOrder (Commanding c) on reply = (n : ℕ) → reply ≡ Number n → (n < 2 ^ 31) × IsOp (op_for (lines_on on c) c)

-- how much one call of the machine wrote, by its reply
abbrev pub WroteByForm : DeviceCall → List ℕ → List ℕ → Reply → Type 0
WroteByForm (Once call) old new reply = WroteBy (guarded_place call) call old new reply
WroteByForm (Removing removal) old new reply = Unit {0}
WroteByForm (Commanding c) old new reply = Unit {0}

-- the removal of a chip is refused as gone where its last entry found it so
abbrev pub IsGoneBy : RemovalOf → Reply → OneView → Type 0
IsGoneBy (OfChip place) reply w = (reply ≡ Refused NoDev) ↔ LastFinds (is_gone_outside place) w.seen
IsGoneBy (OfDevice device) reply w = Unit {0}

-- the entries of a removal, by its answer
abbrev pub EndsOrder : DeviceCall → Reply → OneView → OneView → Type 0
EndsOrder (Once call) reply v w = Unit {0}
EndsOrder (Removing removal) reply v w = RemovedBy removal reply v w × IsGoneBy removal reply w
EndsOrder (Commanding c) reply v w = Unit {0}

-- The lines that come with the answer of a command on a chip, where it made a request, are those that its structure names.
abbrev pub GivesOn : FileKind → CommandIn → Answered → Type 0
GivesOn Chip c answered = (n : ℕ) → answered.reply ≡ Number n → answered.lines ≡ Some (lines_asked (take LINE_REQUEST_SIZE c.bytes))
GivesOn (Request lines) c answered = Unit {0}

-- the same of any call
abbrev pub GivesLines : DeviceCall → FileKind → Answered → Type 0
GivesLines (Once call) on answered = Unit {0}
GivesLines (Removing removal) on answered = Unit {0}
GivesLines (Commanding c) on answered = GivesOn on c answered

-- the place of a chip that was removed is closed and drained
abbrev pub KnowsGone : RemovalOf → OneView → Type 0
KnowsGone (OfChip place) w = KnowsClosed w place × KnowsDrained w place
KnowsGone (OfDevice device) w = Unit {0}

-- What an actor knows of places after a removal, by the answer: a removal that was refused taught it nothing.
pub record KnowsRemoved (removal : RemovalOf) (reply : Reply) (v w : OneView) : Type 0 where
  pub removed : is_done reply ≡ true → KnowsGone removal w
  pub refused : is_done reply ≡ false → KnowsTheSame v w

-- What an actor knows of places after a call, by what it is: one call of the machine without a guard taught it nothing; after a command
-- that was answered as at a closed guard it knows the place closed.
abbrev pub KnowsAfter : DeviceCall → Result Answered Errno → OneView → OneView → Type 0
KnowsAfter (Once call) result v w = KnowsBy (guarded_place call) v w
KnowsAfter (Removing removal) result v w = IfOk result (λ r. KnowsRemoved removal r.reply v w)
KnowsAfter (Commanding c) result v w = IfOk result (λ r. r.reply ≡ guard_reply false → KnowsClosed w c.place)

-- what a device's answer says, if there is one, without the order that comes back where there is none
abbrev pub answered_of : Result Answer (Order × Errno) → Result Answered Errno
answered_of (Ok answer) = Ok answer.answered
answered_of (Err refused) = Err refused.1

-- Memory is taken before an open, and before a request of lines whose bytes alone don't have it refused. No other call takes memory.
abbrev pub DeviceCallTakesMemory : DeviceCall → Type 0
DeviceCallTakesMemory (Once call) = CallTakesMemory call
DeviceCallTakesMemory (Removing removal) = ⊥
DeviceCallTakesMemory (Commanding c) = TakesMemory c

-- A call was not made: it takes memory, there was none, and nothing was done; or the history was full.
abbrev pub CouldNot : {P : Type 0} → DeviceCall → Errno → ActorValue P → ActorValue P → Type 0
CouldNot call errno a b = ((errno ≡ NoMemory) × DeviceCallTakesMemory call × (b ≡ a)) ⊎ ((errno ≡ Full) × (b.port ≡ a.port) × FoundNoRoom core a.pass.view b.pass.view)

-- what a reply comes to: why the call was refused, or the reply itself
abbrev pub outcome_of : Reply → Result Reply Errno
outcome_of reply = value_of (λ r. r) reply

-- A command that asks the driver, and that its guard let in, is answered by its ask or by its tell.
abbrev pub AnswersByEntries : DeviceCall → Reply → OneView → OneView → Type 0
AnswersByEntries (Once call) reply v w = Unit {0}
AnswersByEntries (Removing removal) reply v w = Unit {0}
AnswersByEntries (Commanding c) reply v w =
    is_driver_asked c.of_chip c.len (command_of c.cmd) ≡ true → WasLetIn (outcome_of reply) → AnswersInOrder outcome_of (outcome_of reply) v w c

-- Why such a command is refused, by what its file is of: on a chip it is GET_LINE; of those on a request SET_CONFIG looks at the lines.
abbrev pub CommandRefusedInOrder : Type 0 → FileKind → Reply → OneView → OneView → CommandIn → Type 0
CommandRefusedInOrder Counted Chip reply v w c = RequestsInOrder Counted (outcome_of reply) v w c
CommandRefusedInOrder Counted (Request lines) reply v w c = command_of c.cmd ≡ Some SetConfig → ConfiguresInOrder Counted (outcome_of reply) w c

-- the same of any call
abbrev pub RefusedInOrder : Type 0 → DeviceCall → FileKind → Reply → OneView → OneView → Type 0
RefusedInOrder Counted (Once call) on reply v w = Unit {0}
RefusedInOrder Counted (Removing removal) on reply v w = Unit {0}
RefusedInOrder Counted (Commanding c) on reply v w =
    is_driver_asked c.of_chip c.len (command_of c.cmd) ≡ true → WasLetIn (outcome_of reply) → CommandRefusedInOrder Counted on reply v w c

module _ {P : Type 0} (told : P → Option Told) (faults : P → ℕ) (maps : P → List Map) (maps_left : P → ℕ) (Own : OwnRelation) (Follows : FollowsRelation) (limit : ℕ) where
  -- What a call did, by what it is. One call of the machine and a removal leave the port as it was, and each place whose removal
  -- was begun is closed and drained; a command asks the driver as it says (`HasCommanded`).
  abbrev pub HasDone : DeviceCall → FileKind → ActorValue P → Reply → List ℕ → ActorValue P → Type 0
  HasDone (Once call) on a reply bytes b = HasCalled 0 a.pass.view (Once call) reply bytes b.pass.view × (b.port ≡ a.port)
  HasDone (Removing removal) on a reply bytes b =
      (called : HasCalled 0 a.pass.view (Removing removal) reply bytes b.pass.view) × AllDrained called.did b.pass.view × (b.port ≡ a.port)
  HasDone (Commanding c) on a reply bytes b = HasCommanded told faults maps maps_left Own Follows limit (op_for (lines_on on c) c) a c reply bytes b
