-- What a command on an open file did that may ask the driver: its entries, and what went through the actor's port.
use Rattle.std.specs.Prelude.{◌≡◌, ◌≢◌, ◌⊎◌, ◌<◌, ◌≤◌, ◌^◌, ℕ, Bool, true, false, List, [], ◌∷◌, ◌++◌, length, take, drop, Option, Some, None, Result, Ok, Err}
use Rattle.gl_base.specs.Count.{Rises}
use Rattle.gl_base.specs.declared.errno.Errno.{Errno}
use Rattle.gl_base.specs.declared.errno.Errno.TheVariants.{Full, Io, NoMemory}
use Rattle.gl_base.specs.declared.lines.Lines.{Lines}
use Rattle.gl_driver.specs.Calls.{FitsOp}
use Rattle.gl_driver.specs.declared.map.Map.{Map}
use Rattle.gl_driver.specs.Maps.{map_for}
use Rattle.gl_driver.specs.Told.{Told, counts_for, faults_after, with_call_counting}
use Rattle.gl_base.specs.declared.op.Op.{Op}
use Rattle.gl_base.specs.declared.op.Op.TheVariants.{Apply, Get, Set}
use Rattle.gl_uapi.specs.Command.{command_of, size_of}
use Rattle.gl_uapi.specs.declared.commands.Command.{Command}
use Rattle.gl_uapi.specs.declared.commands.Command.TheVariants.{GetLine, SetConfig, GetValues, SetValues}
use Rattle.gl_world.specs.Deeds.{entries_in}
use Rattle.gl_world.specs.History.{Legal, ended_in, fold}
use Rattle.gl_gate.specs.Calls.{KnowsAsMuch}
use Rattle.gl_gate.specs.Grown.{Grew}
use Rattle.gl_model.specs.declared.call.Call.{Call}
use Rattle.gl_model.specs.declared.reply.Reply.{Reply}
use Rattle.gl_model.specs.declared.reply.Reply.TheVariants.{Number, Go, Refused}
use Rattle.gl_model.specs.AskedLines.{AskedLines, request_fault}
use Rattle.gl_model.specs.Entries.{begins}
use Rattle.gl_model.specs.Machine.{reply_of}
use Rattle.gl_model.specs.declared.device_call.CommandIn.{CommandIn}
use Rattle.gl_model.specs.declared.device_call.DeviceCall.TheVariants.{Commanding}
use Rattle.gl_model.specs.Parts.{MakesTwo, in_ask, in_tell, is_driver_asked, last_reply}
use Rattle.gl_model.specs.Places.{place_at}
use Rattle.gl_model.specs.Replies.{AsksLockedOutput, SetsLockedOutput}
use Rattle.gl_model.specs.Step.{guard_reply}
use Rattle.gl_model.specs.World.{World}
use Rattle.gl_chip.specs.Called.{EndsWithLast, HadRoom, HasCalled}
use Rattle.gl_core.specs.Device.{MayOwn, OneDeed, OneEntry, core, last_bytes}
use Rattle.gl_chip.specs.Files.{LineFile}
use Rattle.gl_asking.specs.Results.{value_of}
use Rattle.gl_chip.specs.Steps.{FoundNoRoom}
use Rattle.gl_chip.specs.Values.{ActorValue, FollowsRelation, OneView, OwnRelation}

-- there is an operation, on 1 to 64 lines
abbrev pub IsOp : Option Op → Type 0
IsOp None = ⊥
IsOp (Some op) = FitsOp op

-- what the driver is asked for a request of lines that brings this, if it asks for something
abbrev pub op_brought : Option (Result AskedLines Errno) → Option Op
op_brought None = None
op_brought (Some (Err errno)) = None
op_brought (Some (Ok asked)) = Some (Apply asked.lines asked.settings)

-- the lines that an operation is on
abbrev pub lines_of_op : Op → Lines
lines_of_op (Get lines) = lines
lines_of_op (Set lines mask bits) = lines
lines_of_op (Apply lines settings) = lines

-- the lines that the driver is asked for, where it is asked
abbrev pub lines_for : Option Op → Option Lines
lines_for None = None
lines_for (Some op) = Some (lines_of_op op)

-- the file of a request of these lines at this place: its number is the one that was answered; nothing where none was
abbrev pub request_in : ℕ → Lines → Reply → Option LineFile
request_in place lines (Number fd) = Some (record { place = place; fd = fd; lines = lines })
request_in place lines reply = None

-- that file, if there is one, or why the command was refused
abbrev pub requested_of : ℕ → Lines → Reply → Result (Option LineFile) Errno
requested_of place lines reply = value_of (request_in place lines) reply

-- Memory is taken for a request of lines alone, whose buffer has room for its structure and whose bytes alone don't have it refused.
abbrev pub TakesMemory : CommandIn → Type 0
TakesMemory c = (is_driver_asked c.of_chip c.len (command_of c.cmd) ≡ true) × (command_of c.cmd ≡ Some GetLine) × (request_fault (take (size_of GetLine) c.bytes) ≡ None)

-- the first of these entries owes a second one: it was answered Go
abbrev pub is_asked : List OneEntry → Bool
is_asked [] = false
is_asked (e ∷ es) = begins e.call e.reply

-- Where EIO of a command comes from: from a driver that failed, which the port has counted then; and of GET_LINE and SET_CONFIG also
-- from a line that is to be an output and is locked as an enabled interrupt.
abbrev pub IoComesOf : Type 0 → World → ℕ → ℕ → Option Command → List ℕ → Type 0
IoComesOf Counted w place fd (Some GetLine) bytes = Counted ⊎ AsksLockedOutput (place_at w place) (take (size_of GetLine) bytes)
IoComesOf Counted w place fd (Some SetConfig) bytes = Counted ⊎ SetsLockedOutput w place fd (take (size_of SetConfig) bytes)
IoComesOf Counted w place fd (Some GetValues) bytes = Counted
IoComesOf Counted w place fd (Some SetValues) bytes = Counted
IoComesOf Counted w place fd _ bytes = ⊥

-- there is an operation, wherever the machine answers this call Go
abbrev pub IsOpAfterGo : Call → Option Op → Type 0
IsOpAfterGo call op = (w : World) (actor n : ℕ) → reply_of w actor call ≡ Go n → IsOp op

-- A driver and its ports: what a port tells, how many failures it has counted, the maps that it keeps and how many more it takes; which
-- entries of its own the driver may make for a call, the answer that follows, and how many entries it makes at most.
module _ {P : Type 0} (told : P → Option Told) (faults : P → ℕ) (maps : P → List Map) (maps_left : P → ℕ) (Own : OwnRelation) (Follows : FollowsRelation) (limit : ℕ) where
  -- The driver was asked once, through this port: for just that operation, and it answered so. It made these entries of its own, and the
  -- answer is one that follows, by what the actor did meanwhile: just the call's deeds between the ask and the tell, with the bytes that the
  -- machine wrote at each. Its room is this, and it had seen no more entries then than stand before the tell. Where the driver failed, the port
  -- has counted that, and nothing else changes its count. The port's maps are what they were.
  pub record WasAsked (op : Option Op) (place : ℕ) (answer : Option ℕ) (own : List OneEntry) (deeds : List OneDeed) (room before : ℕ) (p q : P) : Type 0 where
    pub asked_for : Op
    pub is_this : op ≡ Some asked_for
    pub ask : OneDeed
    pub did : List OneDeed
    pub tell : OneDeed
    pub deeds_are : deeds ≡ ask ∷ (did ++ tell ∷ [])
    pub did_own : entries_in did ≡ own
    pub seen : ℕ
    pub seen_before : seen ≤ before
    pub own_entries : Own (map_for limit place (maps p)) asked_for own
    pub follows : Follows (map_for limit place (maps p)) (told p) asked_for did room seen answer
    pub told_then : told q ≡ with_call_counting (counts_for (map_for limit place (maps p)) (ended_in core own)) asked_for answer (told p)
    pub counted : answer ≡ None → Rises (faults p) (faults q)
    pub count_after : faults q ≡ faults_after answer (faults p)
    pub same_maps : maps q ≡ maps p
    pub same_left : maps_left q ≡ maps_left p

  -- the port after a command with these deeds that asked the driver, or didn't
  abbrev pub PortOf : Bool → Option Op → ℕ → Option ℕ → List OneEntry → List OneDeed → ℕ → ℕ → P → P → Type 0
  PortOf true op place answer own deeds room before p q = WasAsked op place answer own deeds room before p q
  PortOf false op place answer own deeds room before p q = q ≡ p

  -- One command, by an actor who was a and is b then, for which the driver is asked this if it is asked. It is a call of the device
  -- (`HasCalled`). After Go, and only then, the driver was asked once, and the tell holds what it answered. EIO comes only from the
  -- driver, whose port has counted that, or from a line that is locked.
  pub record HasCommanded (op : Option Op) (a : ActorValue P) (c : CommandIn) (reply : Reply) (bytes : List ℕ) (b : ActorValue P) : Type 0 where
    pub called : HasCalled limit a.pass.view (Commanding c) reply bytes b.pass.view
    pub port : PortOf (is_asked (entries_in called.did)) op c.place called.answer called.own called.did a.pass.view.room (length called.last.at.0) a.port b.port
    pub never_falls : faults a.port ≤ faults b.port
    pub io : reply ≡ Refused Io → IoComesOf (Rises (faults a.port) (faults b.port)) (fold core called.last.at.0) c.place c.fd (command_of c.cmd) c.bytes

  -- a command that asks the driver, inside its place: what became of the pass and of the port
  pub record CommandedInside (op : Option Op) (v : OneView) (p : P) (c : CommandIn) (reply : Reply) (old new : List ℕ) (w : OneView) (q : P) : Type 0 where
    pub answer : Option ℕ
    pub own : List OneEntry
    pub did : List OneDeed
    pub makes : MakesTwo v.number (in_ask c) (in_tell answer c) own (entries_in did)
    pub few_own : length own ≤ limit
    pub may_own : MayOwn own
    pub grew : Grew core v did w
    pub last : EndsWithLast w.seen (entries_in did)
    pub had_room : HadRoom v w.seen (entries_in did)
    pub legal : Legal core w.seen
    pub reply_is : last_reply (entries_in did) ≡ Some reply
    pub bytes : new ≡ last_bytes did ++ drop (length (last_bytes did)) old
    pub port : PortOf (is_asked (entries_in did)) op c.place answer own did v.room (length last.at.0) p q
    pub never_falls : faults p ≤ faults q
    pub io : reply ≡ Refused Io → IoComesOf (Rises (faults p) (faults q)) (fold core last.at.0) c.place c.fd (command_of c.cmd) c.bytes
    pub let_in : reply ≢ guard_reply false
    pub numbered : (n : ℕ) → reply ≡ Number n → (n < 2 ^ 31) × IsOp op
    pub knows_as_much : KnowsAsMuch v w

  -- the command was made, and the result is what its reply comes to
  pub record IsCommanded {X : Type 0} (answer : Reply → Result X Errno) (result : Result X Errno) (op : Option Op) (a : ActorValue P) (c : CommandIn) (bytes : List ℕ) (b : ActorValue P) : Type 0 where
    pub reply : Reply
    pub result_is : result ≡ answer reply
    pub not_full : result ≢ Err Full
    pub not_memory : result ≢ Err NoMemory
    pub commanded : HasCommanded op a c reply bytes b

  -- How a command comes out: it was made, or the history was full, and then, and only then, the result says so; nothing was asked, and
  -- nothing was written.
  abbrev pub CommandsOut : {X : Type 0} → (Reply → Result X Errno) → Result X Errno → Option Op → ActorValue P → CommandIn → List ℕ → ActorValue P → Type 0
  CommandsOut answer result op a c bytes b = IsCommanded answer result op a c bytes b ⊎ ((result ≡ Err Full) × FoundNoRoom core a.pass.view b.pass.view × (b.port ≡ a.port) × (bytes ≡ []))
