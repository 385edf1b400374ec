-- What an operation hands to its call, and what it takes from it.
use Rattle.std.proofs.Common.{◌≡◌, ℕ, Bool, true, false, List, [], map, Option, None, Some, refl, sym, ap, ◌∙◌, subst, arith, take}
use Rattle.std.specs.Prelude.{nat_lt, if◌then◌else◌}
use Rattle.std.proofs.lemmas.Bool.{true≢false}
use Rattle.std.proofs.lemmas.List.{length-replicate}
use Rattle.gl_base.specs.Count.{counted_up}
use Rattle.gl_base.specs.Planned.{planned_answer}
use Rattle.gl_base.specs.declared.lines.Lines.{Lines}
use Rattle.gl_base.specs.declared.errno.Errno.{Errno}
use Rattle.gl_base.specs.declared.operation.Got.{Got}
use Rattle.gl_base.specs.declared.operation.Got.TheVariants.{Done as GotDone, Refused as GotRefused}
use Rattle.gl_base.specs.declared.limits.TheConstants.{PLACES}
use Rattle.gl_base.specs.declared.operation.Do.{Do}
use Rattle.gl_base.specs.declared.operation.Do.TheVariants.{Probe as DoProbe, Unplug as DoUnplug, MakeDir as DoMakeDir, RemoveDir as DoRemoveDir, Write as DoWrite, Read as DoRead, Live as DoLive, Tick as DoTick, Pin as DoPin, Irq as DoIrq, Pull as DoPull, Level as DoLevel, OpenChip as DoOpenChip, Find as DoFind, Ioctl as DoIoctl, ReadFile, Poll, Close as DoClose, Plan, Accept, Aggregate}
use Rattle.gl_uapi.specs.Command.{command_of, size_of}
use Rattle.gl_uapi.specs.declared.commands.Command.{Command}
use Rattle.gl_uapi.specs.declared.commands.Command.TheVariants.{ChipInfo, LineInfo, Watch as WatchInfo, Unwatch as UnwatchInfo, GetLine, SetConfig, GetValues, SetValues}
use Rattle.gl_asking.specs.declared.kinds.Answered.{Answered as CallAnswered}
use Rattle.gl_asking.specs.declared.kinds.Asking.{Asking}
use Rattle.gl_asking.specs.declared.kinds.Asking.TheVariants.{Calls, Plans, Accepts, Refuses}
use Rattle.gl_asking.specs.Asking.{asking, buffer_of, files_behind, finds, got_of, has_lines, lives, on_file, once, polls, reads_from}
use Rattle.gl_asking.specs.Rows.{row_file}
use Rattle.gl_asking.specs.declared.kinds.FileRow.{FileRow}
use Rattle.gl_asking.specs.Changes.{IsFilled, NamesMade, OpensWithin}
use Rattle.gl_asking.specs.Files.{OpenFile, file_in}
use Rattle.gl_asking.specs.Handed.{command_in}
use Rattle.gl_asking.proofs.HandedBytes.{handed_start}
use Rattle.gl_model.specs.declared.call.Call.TheVariants.{Close, Find, PollChip, PollLine, ReadEdges, ReadInfo}
use Rattle.gl_model.specs.declared.device_call.DeviceCall.{DeviceCall}
use Rattle.gl_model.specs.declared.device_call.DeviceCall.TheVariants.{Commanding}
use Rattle.gl_model.specs.declared.reply.Reply.{Reply}
use Rattle.gl_model.specs.declared.reply.Reply.TheVariants.{Done as DoneReply, Number, Refused as RefusedReply}
use Rattle.gl_model.specs.AskedLines.{request_fault}
use Rattle.gl_model.specs.Outcome.{Outcome}
use Rattle.gl_model.specs.Parts.{in_ask, in_tell, in_whole, is_driver_asked}
use Rattle.gl_model.specs.Step.{step}
use Rattle.gl_model.specs.World.{World}
use Rattle.gl_model.specs.declared.device_call.CommandIn.{CommandIn}
use Rattle.gl_model.specs.Written.{number_answered}
use Rattle.gl_core.specs.Kept.{StandsFor}
use Rattle.gl_base.specs.declared.op.Op.{Op}
use Rattle.gl_asking.proofs.Told.{accepted_got as got_of_bits, planned_got as got_of_plan, refused_got as got_of_refusal}
use Rattle.gl_asking.specs.Driving.{applies, lines_by, op_asked, op_of, op_on, op_requested}
use Rattle.gl_check.specs.Joining.{Maps, asking_with, maps_behind, no_maps}
use Rattle.gl_check.proofs.Joined.{asking_plainly, no_maps_behind}
use Rattle.gl_check.specs.One.{PlannedPort, Standing, at_guard, bits_asked, comes_by, comes_to, from_plan, is_asked, performs, performs_as, two, with_answer}
use Rattle.gl_check.specs.Buffers.{buffer_for}
use Rattle.gl_check.specs.Ports.{next_answer}
use Rattle.gl_check.specs.Seating.{port_in}
use Rattle.gl_served.specs.Alone.{StandsAs}
use Rattle.gl_served.specs.declared.alone.Alone.{Alone}
use Rattle.gl_served.specs.Port.{after_asking, next_to}
use Rattle.gl_served.specs.Making.{CameBy, FitsMaking, Wrote}
use Rattle.gl_served.specs.Opening.{GivesLines, LinesBy, NumbersBy}

-- an operation suits its call
pub record Suits (what : Do) (call : DeviceCall) : Type 0 where
  pub fits : FitsMaking call (buffer_for what)
  pub filled : (bytes new : List ℕ) → Wrote call bytes (buffer_for what) new → IsFilled what bytes new
  pub opens : (reply : Reply) → NumbersBy call reply → LinesBy call reply → OpensWithin what reply
  pub named : (row : Option FileRow) (answered : CallAnswered) → GivesLines call answered.reply answered.lines → NamesMade what row answered

abbrev pub ForCall : (DeviceCall → Type 0) → Asking → Type 0
ForCall P (Calls call) = P call
ForCall P (Plans nth) = Unit {0}
ForCall P (Accepts bits) = Unit {0}
ForCall P (Refuses errno) = Unit {0}

chosen : (what : Do) (call : DeviceCall) (errno : Errno) (b : Bool) → Suits what call → ForCall (Suits what) (if b then Calls call else Refuses errno)
chosen what call errno true suits = suits
chosen what call errno false suits = tt

read_suits : (slot len : ℕ) (file : OpenFile) (of_chip : Bool) → ForCall (Suits (ReadFile slot len)) (once (if of_chip then ReadInfo file.place file.fd len else ReadEdges file.place file.fd len))
read_suits slot len file true = record { fits = length-replicate len 0; filled = λ bytes new w. w; opens = λ reply n l. tt; named = λ row answered gives. tt }
read_suits slot len file false = record { fits = length-replicate len 0; filled = λ bytes new w. w; opens = λ reply n l. tt; named = λ row answered gives. tt }

read_on : (slot len : ℕ) (o : Option OpenFile) → ForCall (Suits (ReadFile slot len)) (on_file o (λ file. once (reads_from len file)))
read_on slot len None = tt
read_on slot len (Some file) = read_suits slot len file file.of_chip

poll_suits : (slot : ℕ) (file : OpenFile) (of_chip : Bool) → ForCall (Suits (Poll slot)) (once (if of_chip then PollChip file.place file.fd else PollLine file.place file.fd))
poll_suits slot file true = record { fits = tt; filled = λ bytes new w. tt; opens = λ reply n l. tt; named = λ row answered gives. tt }
poll_suits slot file false = record { fits = tt; filled = λ bytes new w. tt; opens = λ reply n l. tt; named = λ row answered gives. tt }

poll_on : (slot : ℕ) (o : Option OpenFile) → ForCall (Suits (Poll slot)) (on_file o (λ file. once (polls file)))
poll_on slot None = tt
poll_on slot (Some file) = poll_suits slot file file.of_chip

close_on : (slot : ℕ) (o : Option OpenFile) → ForCall (Suits (DoClose slot)) (on_file o (λ file. once (Close file.fd)))
close_on slot None = tt
close_on slot (Some file) = record { fits = tt; filled = λ bytes new w. tt; opens = λ reply n l. tt; named = λ row answered gives. tt }

find_on : (slot : ℕ) (name : List ℕ) (o : Option OpenFile) → ForCall (Suits (DoFind (Some slot) name)) (on_file o (λ file. once (Find (Some file.place) name)))
find_on slot name None = tt
find_on slot name (Some file) = record { fits = tt; filled = λ bytes new w. tt; opens = λ reply n l. tt; named = λ row answered gives. tt }

command_on : (slot cmd len : ℕ) (bytes : List ℕ) (made : ℕ) (o : Option OpenFile)
    → ForCall (Suits (DoIoctl slot cmd len bytes made)) (on_file o (λ file. Calls (Commanding (command_in file.place file.fd file.of_chip cmd (buffer_of len bytes)))))
command_on slot cmd len bytes made None = tt
command_on slot cmd len bytes made (Some file) = record {
  fits = (refl, handed_start (buffer_of len bytes));
  filled = λ wrote new w. w;
  opens = λ reply number lines. (number, λ is fd e. lines (ap command_of is) fd e);
  named = λ row answered gives. λ is n e chip. gives (ap command_of is) n e;
}

live_suits : (device : List ℕ) (up : Bool) → ForCall (Suits (DoLive device up)) (lives device up)
live_suits device true = record { fits = tt; filled = λ bytes new w. tt; opens = λ reply n l. tt; named = λ row answered gives. tt }
live_suits device false = record { fits = refl; filled = λ bytes new w. tt; opens = λ reply n l. tt; named = λ row answered gives. tt }

find_suits : (slot : Option ℕ) (name : List ℕ) (files : List OpenFile) → ForCall (Suits (DoFind slot name)) (finds slot name files)
find_suits None name files = record { fits = tt; filled = λ bytes new w. tt; opens = λ reply n l. tt; named = λ row answered gives. tt }
find_suits (Some slot) name files = find_on slot name (file_in slot files)

pub suits : (files : List OpenFile) (what : Do) → ForCall (Suits what) (asking files what)
suits files (DoProbe label lines) = chosen (DoProbe label lines) _ _ (has_lines lines) (record { fits = tt; filled = λ bytes new w. tt; opens = λ reply n l. tt; named = λ row answered gives. tt })
suits files (DoUnplug place) = chosen (DoUnplug place) _ _ (nat_lt place PLACES) (record { fits = refl; filled = λ bytes new w. tt; opens = λ reply n l. tt; named = λ row answered gives. tt })
suits files (DoMakeDir path) = record { fits = tt; filled = λ bytes new w. tt; opens = λ reply n l. tt; named = λ row answered gives. tt }
suits files (DoRemoveDir path) = record { fits = tt; filled = λ bytes new w. tt; opens = λ reply n l. tt; named = λ row answered gives. tt }
suits files (DoWrite path value) = record { fits = tt; filled = λ bytes new w. tt; opens = λ reply n l. tt; named = λ row answered gives. tt }
suits files (DoRead path) = record { fits = tt; filled = λ bytes new w. tt; opens = λ reply n l. tt; named = λ row answered gives. tt }
suits files (DoLive device up) = live_suits device up
suits files (DoTick mono real) = record { fits = tt; filled = λ bytes new w. tt; opens = λ reply n l. tt; named = λ row answered gives. tt }
suits files (DoPin place what) = chosen (DoPin place what) _ _ (nat_lt place PLACES) (record { fits = tt; filled = λ bytes new w. tt; opens = λ reply n l. tt; named = λ row answered gives. tt })
suits files (DoIrq place offset what) = chosen (DoIrq place offset what) _ _ (nat_lt place PLACES) (record { fits = tt; filled = λ bytes new w. tt; opens = λ reply n l. tt; named = λ row answered gives. tt })
suits files (DoPull place offset up) = chosen (DoPull place offset up) _ _ (nat_lt place PLACES) (record { fits = tt; filled = λ bytes new w. tt; opens = λ reply n l. tt; named = λ row answered gives. tt })
suits files (DoLevel place offset pull) = chosen (DoLevel place offset pull) _ _ (nat_lt place PLACES) (record { fits = tt; filled = λ bytes new w. tt; opens = λ reply n l. tt; named = λ row answered gives. tt })
suits files (DoOpenChip slot word) = record { fits = tt; filled = λ bytes new w. tt; opens = λ reply n l. n; named = λ row answered gives. tt }
suits files (DoFind slot name) = find_suits slot name files
suits files (DoIoctl slot cmd len bytes made) = command_on slot cmd len bytes made (file_in slot files)
suits files (ReadFile slot len) = read_on slot len (file_in slot files)
suits files (Poll slot) = poll_on slot (file_in slot files)
suits files (DoClose slot) = close_on slot (file_in slot files)
suits files (Plan nth) = tt
suits files (Accept bits) = tt
suits files (Aggregate label slots count) = tt

-- of the call that an operation is
pub suits_call : (files : List OpenFile) (what : Do) (call : DeviceCall) → Calls call ≡ asking files what → Suits what call
suits_call files what call is = subst (λ (x : Asking). ForCall (Suits what) x) (sym is) (suits files what)

-- a reply without a number opens nothing
abbrev has_number : Reply → Bool
has_number (Number n) = true
has_number _ = false

pub opens_nothing : (what : Do) (reply : Reply) → number_answered reply ≡ 0 → has_number reply ≡ false → OpensWithin what reply
opens_nothing (DoOpenChip slot word) reply small other = (omega (arith, small), λ fd e. absurd (true≢false (sym (ap has_number e) ∙ other)))
opens_nothing (DoIoctl slot cmd len bytes made) reply small other = (omega (arith, small), λ is fd e. absurd (true≢false (sym (ap has_number e) ∙ other)))
opens_nothing (DoProbe label lines) reply small other = tt
opens_nothing (DoUnplug place) reply small other = tt
opens_nothing (DoMakeDir path) reply small other = tt
opens_nothing (DoRemoveDir path) reply small other = tt
opens_nothing (DoWrite path value) reply small other = tt
opens_nothing (DoRead path) reply small other = tt
opens_nothing (DoLive device up) reply small other = tt
opens_nothing (DoTick mono real) reply small other = tt
opens_nothing (DoPin place what) reply small other = tt
opens_nothing (DoIrq place offset what) reply small other = tt
opens_nothing (DoPull place offset up) reply small other = tt
opens_nothing (DoLevel place offset pull) reply small other = tt
opens_nothing (DoFind slot name) reply small other = tt
opens_nothing (ReadFile slot len) reply small other = tt
opens_nothing (Poll slot) reply small other = tt
opens_nothing (DoClose slot) reply small other = tt
opens_nothing (Plan nth) reply small other = tt
opens_nothing (Accept bits) reply small other = tt
opens_nothing (Aggregate label slots count) reply small other = tt

-- and makes no request
pub names_nothing : (what : Do) (row : Option FileRow) (answered : CallAnswered) → has_number answered.reply ≡ false → NamesMade what row answered
names_nothing (DoIoctl slot cmd len bytes made) row answered other = λ is fd e chip. absurd (true≢false (sym (ap has_number e) ∙ other))
names_nothing _ row answered other = tt

-- what is got of a refusal, and of what is said to the port
pub refused_got : (what : Do) (errno : Errno) → GotRefused errno ≡ got_of what (RefusedReply errno) []
refused_got what errno = got_of_refusal what errno

pub planned_got : (files : List OpenFile) (what : Do) (nth : ℕ) → Plans nth ≡ asking files what → GotDone ≡ got_of what DoneReply []
planned_got files what nth is = got_of_plan files what nth is

pub accepted_got : (files : List OpenFile) (what : Do) (bits : ℕ) → Accepts bits ≡ asking files what → GotDone ≡ got_of what DoneReply []
accepted_got files what bits is = got_of_bits files what bits is

-- What the driver answers to an operation, as the code has it of the operation's call.
abbrev Answered : Option Op → DeviceCall → Type 0
Answered op call = (w : World) (port : PlannedPort) → comes_by w call (from_plan.next None op port) ≡ comes_to w call (next_to call port)

answered_if : (op : Option Op) (call : DeviceCall) (errno : Errno) (b : Bool) → Answered op call → ForCall (Answered op) (if b then Calls call else Refuses errno)
answered_if op call errno true answered = answered
answered_if op call errno false answered = tt

answered_on : (op : Option Op) (calls : OpenFile → DeviceCall) (o : Option OpenFile) → ((file : OpenFile) → Answered op (calls file)) → ForCall (Answered op) (on_file o (λ file. Calls (calls file)))
answered_on op calls None answered = tt
answered_on op calls (Some file) answered = answered file

requested_bits : (fault : Option Errno) (bytes : List ℕ) (bits : ℕ) → bits_asked (op_requested fault bytes) bits ≡ bits
requested_bits None bytes bits = refl
requested_bits (Some errno) bytes bits = refl

-- what a command comes to, by its name
abbrev named_to : World → CommandIn → Option Command → Option ℕ → Outcome
named_to w c command answer = at_guard (Some c.place) false w (if is_driver_asked c.of_chip c.len command then two w (in_ask c) (in_tell answer c) else step w 0 (in_whole c))

named_answered : (lines : Lines) (c : CommandIn) (w : World) (port : PlannedPort) (command : Option Command)
    → named_to w c command (from_plan.next None (op_of lines command c.bytes) port).answer ≡ named_to w c command (next_answer (applies command) port)
named_answered lines c w port None = refl
named_answered lines c w port (Some ChipInfo) = refl
named_answered lines c w port (Some LineInfo) = refl
named_answered lines c w port (Some WatchInfo) = refl
named_answered lines c w port (Some UnwatchInfo) = refl
named_answered lines c w port (Some GetLine) =
    ap (λ (bits : ℕ). named_to w c (Some GetLine) (planned_answer bits port.plan (counted_up port.calls))) (requested_bits (request_fault (take (size_of GetLine) c.bytes)) (take (size_of GetLine) c.bytes) port.bits)
named_answered lines c w port (Some SetConfig) = refl
named_answered lines c w port (Some GetValues) = refl
named_answered lines c w port (Some SetValues) = refl

command_answered : (cmd : ℕ) (buffer : List ℕ) (o : Option OpenFile) → ForCall (Answered (op_on o cmd buffer)) (on_file o (λ file. Calls (Commanding (command_in file.place file.fd file.of_chip cmd buffer))))
command_answered cmd buffer None = tt
command_answered cmd buffer (Some file) = λ w port. named_answered (lines_by file.of_chip file.lines buffer) (command_in file.place file.fd file.of_chip cmd buffer) w port (command_of cmd)

answered_live : (device : List ℕ) (up : Bool) → ForCall (Answered None) (lives device up)
answered_live device true = λ w port. refl
answered_live device false = λ w port. refl

answered_find : (slot : Option ℕ) (name : List ℕ) (files : List OpenFile) → ForCall (Answered None) (finds slot name files)
answered_find None name files = λ w port. refl
answered_find (Some slot) name files = answered_on None _ (file_in slot files) (λ file w port. refl)

answered : (files : List OpenFile) (what : Do) → ForCall (Answered (op_asked files what)) (asking files what)
answered files (DoProbe label lines) = answered_if None _ _ (has_lines lines) (λ w port. refl)
answered files (DoUnplug place) = answered_if None _ _ (nat_lt place PLACES) (λ w port. refl)
answered files (DoMakeDir path) = λ w port. refl
answered files (DoRemoveDir path) = λ w port. refl
answered files (DoWrite path value) = λ w port. refl
answered files (DoRead path) = λ w port. refl
answered files (DoLive device up) = answered_live device up
answered files (DoTick mono real) = λ w port. refl
answered files (DoPin place what) = answered_if None _ _ (nat_lt place PLACES) (λ w port. refl)
answered files (DoIrq place offset what) = answered_if None _ _ (nat_lt place PLACES) (λ w port. refl)
answered files (DoPull place offset up) = answered_if None _ _ (nat_lt place PLACES) (λ w port. refl)
answered files (DoLevel place offset pull) = answered_if None _ _ (nat_lt place PLACES) (λ w port. refl)
answered files (DoOpenChip slot word) = λ w port. refl
answered files (DoFind slot name) = answered_find slot name files
answered files (DoIoctl slot cmd len bytes made) = command_answered cmd (buffer_of len bytes) (file_in slot files)
answered files (ReadFile slot len) = answered_on None _ (file_in slot files) (λ file w port. refl)
answered files (Poll slot) = answered_on None _ (file_in slot files) (λ file w port. refl)
answered files (DoClose slot) = answered_on None _ (file_in slot files) (λ file w port. refl)
answered files (Plan nth) = tt
answered files (Accept bits) = tt
answered files (Aggregate label slots count) = tt

-- the world, the files, the port and the maps after an operation that is a call
answer_source : (call : DeviceCall) (b : Bool) (op : Option Op) (s : Standing PlannedPort) → (with_answer 0 from_plan call op b s).source ≡ after_asking b s.source
answer_source call true op s = refl
answer_source call false op s = refl

answer_files : (call : DeviceCall) (b : Bool) (op : Option Op) (s : Standing PlannedPort) → (with_answer 0 from_plan call op b s).files ≡ s.files
answer_files call true op s = refl
answer_files call false op s = refl

answer_maps : (call : DeviceCall) (b : Bool) (op : Option Op) (s : Standing PlannedPort) → (with_answer 0 from_plan call op b s).maps ≡ s.maps
answer_maps call true op s = refl
answer_maps call false op s = refl

-- `none`: the port has no maps, and takes none
module _ (what : Do) (s : Standing PlannedPort) (none : s.maps ≡ no_maps 0) (a : Alone) (got : Got) where
  abbrev IsPerformed : Asking → Type 0
  IsPerformed x = (got ≡ (performs_as 0 from_plan x (op_asked s.files what) what s).0) × StandsAs a (performs_as 0 from_plan x (op_asked s.files what) what s).1

  asks_plainly : asking_with s.maps s.files what ≡ asking s.files what
  asks_plainly = ap (λ (m : Maps). asking_with m s.files what) none ∙ asking_plainly s.files what

  maps_stay : (reply : Reply) (files : List OpenFile) → maps_behind what reply files s.maps ≡ no_maps 0
  maps_stay reply files = ap (λ (m : Maps). maps_behind what reply files m) none ∙ no_maps_behind what reply files

  pub performed_call : (call : DeviceCall) → Calls call ≡ asking s.files what → let out = comes_by s.world call (from_plan.next None (op_asked s.files what) s.source) in
      got ≡ got_of what out.reply out.bytes → StandsFor a.core out.world → map row_file a.rows.items ≡ files_behind what out.reply s.files → port_in a.port ≡ after_asking (is_asked s.world call) s.source
      → (got ≡ (performs 0 from_plan what s).0) × StandsAs a (performs 0 from_plan what s).1
  performed_call call is gets world files port =
      let asks = is_asked s.world call in
      let op = op_asked s.files what in
      let reply = (comes_by s.world call (from_plan.next None op s.source)).reply in
      subst (λ (x : Asking). IsPerformed x) (is ∙ sym asks_plainly) (
        gets,
        record {
          world = world;
          files = files ∙ ap (λ (l : List OpenFile). files_behind what reply l) (sym (answer_files call asks op s));
          source = port ∙ sym (answer_source call asks op s);
          maps = ap (λ (m : Maps). maps_behind what reply (with_answer 0 from_plan call op asks s).files m) (answer_maps call asks op s) ∙ maps_stay reply (with_answer 0 from_plan call op asks s).files;
        },
      )

  pub performed_plan : (nth : ℕ) → Plans nth ≡ asking s.files what → got ≡ got_of what DoneReply [] → StandsFor a.core s.world → map row_file a.rows.items ≡ files_behind what DoneReply s.files → port_in a.port ≡ from_plan.planned nth s.source
      → (got ≡ (performs 0 from_plan what s).0) × StandsAs a (performs 0 from_plan what s).1
  performed_plan nth is gets world files port = subst (λ (x : Asking). IsPerformed x) (is ∙ sym asks_plainly) (gets, record { world = world; files = files; source = port; maps = maps_stay DoneReply s.files })

  pub performed_accept : (bits : ℕ) → Accepts bits ≡ asking s.files what → got ≡ got_of what DoneReply [] → StandsFor a.core s.world → map row_file a.rows.items ≡ files_behind what DoneReply s.files → port_in a.port ≡ from_plan.accepted bits s.source
      → (got ≡ (performs 0 from_plan what s).0) × StandsAs a (performs 0 from_plan what s).1
  performed_accept bits is gets world files port = subst (λ (x : Asking). IsPerformed x) (is ∙ sym asks_plainly) (gets, record { world = world; files = files; source = port; maps = maps_stay DoneReply s.files })

  pub performed_refusal : (errno : Errno) → Refuses errno ≡ asking s.files what → got ≡ got_of what (RefusedReply errno) [] → StandsFor a.core s.world → map row_file a.rows.items ≡ files_behind what (RefusedReply errno) s.files → port_in a.port ≡ s.source
      → (got ≡ (performs 0 from_plan what s).0) × StandsAs a (performs 0 from_plan what s).1
  performed_refusal errno is gets world files port = subst (λ (x : Asking). IsPerformed x) (is ∙ sym asks_plainly) (gets, record { world = world; files = files; source = port; maps = maps_stay (RefusedReply errno) s.files })

  -- the same by what the code is told: of the port and the files as the code keeps them, and of the buffer
  pub performed_from : (call : DeviceCall) (port : PlannedPort) (files : List OpenFile) (reply : Reply) (buffer new : List ℕ) → Calls call ≡ asking s.files what → port ≡ s.source → files ≡ s.files → buffer ≡ buffer_for what → Suits what call
      → CameBy call (comes_to s.world call (next_to call port)) reply a.core buffer new
      → port_in a.port ≡ after_asking (is_asked s.world call) port
      → map row_file a.rows.items ≡ files_behind what reply files
      → ((wrote : List ℕ) → IsFilled what wrote new → got ≡ got_of what reply wrote)
      → (got ≡ (performs 0 from_plan what s).0) × StandsAs a (performs 0 from_plan what s).1
  performed_from call port files reply buffer new is source same handed suited came told left gets =
      let out : Outcome = comes_by s.world call (from_plan.next None (op_asked s.files what) s.source) in
      let same_answer : Answered (op_asked s.files what) call = subst (λ (x : Asking). ForCall (Answered (op_asked s.files what)) x) (sym is) (answered s.files what) in
      let made : CameBy call out reply a.core buffer new = subst (λ (o : Outcome). CameBy call o reply a.core buffer new) (sym (same_answer s.world s.source))
      (subst (λ (p : PlannedPort). CameBy call (comes_to s.world call (next_to call p)) reply a.core buffer new) source came) in
      let filled : IsFilled what out.bytes new = suited.filled out.bytes new (subst (λ (b : List ℕ). Wrote call out.bytes b new) handed made.wrote) in
      performed_call call is (gets out.bytes filled ∙ ap (λ (r : Reply). got_of what r out.bytes) made.reply) made.world
      (left ∙ ap (λ (r : Reply). files_behind what r files) made.reply ∙ ap (λ (l : List OpenFile). files_behind what out.reply l) same)
      (told ∙ ap (λ (p : PlannedPort). after_asking (is_asked s.world call) p) source)
