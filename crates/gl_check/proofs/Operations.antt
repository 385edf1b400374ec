-- The calls that operations are: the device has them, and where the machine answers Go, the driver is asked something, which the command
-- says.
use Rattle.std.proofs.Common.{◌≡◌, ℕ, Bool, true, false, List, Option, None, Some, IfSome, refl, sym, ap, ◌∙◌, subst, take}
use Rattle.std.specs.Prelude.{nat_lt, if◌then◌else◌}
use Rattle.std.proofs.lemmas.Bool.{false≢true}
use Rattle.gl_base.specs.Planned.{bits_for}
use Rattle.gl_base.specs.declared.errno.Errno.{Errno}
use Rattle.gl_base.specs.declared.limits.TheConstants.{PLACES}
use Rattle.gl_base.specs.declared.lines.Lines.{Lines}
use Rattle.gl_base.specs.declared.op.Op.{Op}
use Rattle.gl_base.specs.declared.op.Op.TheVariants.{Apply}
use Rattle.gl_base.specs.declared.operation.Do.{Do}
use Rattle.gl_base.specs.declared.operation.Do.TheVariants.{Probe as DoProbe, Unplug as DoUnplug, MakeDir as DoMakeDir, RemoveDir as DoRemoveDir, Write as DoWrite, Read as DoRead, Live as DoLive, Tick as DoTick, Pin as DoPin, Irq as DoIrq, Pull as DoPull, Level as DoLevel, OpenChip as DoOpenChip, Find as DoFind, Ioctl as DoIoctl, ReadFile, Poll, Close as DoClose, Plan, Accept, Aggregate}
use Rattle.gl_uapi.specs.Command.{command_of, size_of}
use Rattle.gl_uapi.specs.declared.commands.Command.{Command}
use Rattle.gl_uapi.specs.declared.commands.Command.TheVariants.{ChipInfo, LineInfo, Watch, Unwatch, GetLine, SetConfig, GetValues, SetValues}
use Rattle.gl_model.specs.AskedLines.{asked_in, lines_asked, request_fault}
use Rattle.gl_model.specs.Entries.{is_go}
use Rattle.gl_model.specs.Machine.{reply_of}
use Rattle.gl_model.specs.Parts.{device_has, in_ask, is_driver_asked}
use Rattle.gl_model.specs.World.{World}
use Rattle.gl_model.specs.declared.call.Call.TheVariants.{Close, Find, PollChip, PollLine, ReadEdges, ReadInfo}
use Rattle.gl_model.specs.declared.device_call.CommandIn.{CommandIn}
use Rattle.gl_model.specs.declared.device_call.DeviceCall.{DeviceCall}
use Rattle.gl_model.specs.declared.device_call.DeviceCall.TheVariants.{Once, Removing, Commanding}
use Rattle.gl_model.specs.declared.reply.Reply.{Reply}
use Rattle.gl_asking.specs.declared.kinds.Asking.{Asking}
use Rattle.gl_asking.specs.declared.kinds.Asking.TheVariants.{Calls, Plans, Accepts, Refuses}
use Rattle.gl_asking.specs.Asking.{asking, buffer_of, finds, has_lines, lives, on_file, once, polls, reads_from}
use Rattle.gl_asking.specs.Driving.{applies, lines_by, op_asked, op_of, op_on, op_requested}
use Rattle.gl_asking.specs.Files.{OpenFile, file_in}
use Rattle.gl_asking.specs.Handed.{command_in}
use Rattle.gl_check.proofs.Going.{go_by_number}

abbrev pub ForCall : (DeviceCall → Type 0) → Asking → Type 0
ForCall P (Calls call) = P call
ForCall P (Plans nth) = Unit {0}
ForCall P (Accepts bits) = Unit {0}
ForCall P (Refuses errno) = Unit {0}

for_call : (P Q : DeviceCall → Type 0) → ((call : DeviceCall) → P call → Q call) → (a : Asking) → ForCall P a → ForCall Q a
for_call P Q h (Calls call) p = h call p
for_call P Q h (Plans nth) p = tt
for_call P Q h (Accepts bits) p = tt
for_call P Q h (Refuses errno) p = tt

-- the machine answered Go to an ask, so the driver is asked something
abbrev pub AsksCommand : ℕ → Option Op → CommandIn → Type 0
AsksCommand n op c = is_driver_asked c.of_chip c.len (command_of c.cmd) ≡ true → (w : World) (reply : Reply) → reply ≡ reply_of w n (in_ask c) → is_go reply ≡ true → (o : Op) × (op ≡ Some o)

abbrev pub AsksOp : ℕ → Option Op → DeviceCall → Type 0
AsksOp n op (Once call) = Unit {0}
AsksOp n op (Removing removal) = Unit {0}
AsksOp n op (Commanding c) = AsksCommand n op c

-- a planned driver answers what it is asked for a command with the accepted bits where the command configures lines, and else with 0
abbrev pub HasBits : Option Op → DeviceCall → Type 0
HasBits op (Once call) = Unit {0}
HasBits op (Removing removal) = Unit {0}
HasBits op (Commanding c) = (bits : ℕ) → IfSome op (λ o. bits_for o bits ≡ (if applies (command_of c.cmd) then bits else 0))

requested_bits : (fault : Option Errno) (bytes : List ℕ) (bits : ℕ) → IfSome (op_requested fault bytes) (λ o. bits_for o bits ≡ bits)
requested_bits None bytes bits = refl
requested_bits (Some errno) bytes bits = tt

command_bits : (lines : Lines) (command : Option Command) (bytes : List ℕ) (bits : ℕ) → IfSome (op_of lines command bytes) (λ o. bits_for o bits ≡ (if applies command then bits else 0))
command_bits lines None bytes bits = tt
command_bits lines (Some ChipInfo) bytes bits = tt
command_bits lines (Some LineInfo) bytes bits = tt
command_bits lines (Some Watch) bytes bits = tt
command_bits lines (Some Unwatch) bytes bits = tt
command_bits lines (Some GetLine) bytes bits = requested_bits (request_fault (take (size_of GetLine) bytes)) (take (size_of GetLine) bytes) bits
command_bits lines (Some SetConfig) bytes bits = refl
command_bits lines (Some GetValues) bytes bits = refl
command_bits lines (Some SetValues) bytes bits = refl

requested : (fault : Option Errno) (bytes : List ℕ) → fault ≡ None → (o : Op) × (op_requested fault bytes ≡ Some o)
requested None bytes is = (Apply (lines_asked bytes) (asked_in bytes).settings, refl)
requested (Some errno) bytes is = cc

has_op : (lines : Lines) (of_chip : Bool) (len : ℕ) (command : Option Command) (bytes : List ℕ) → is_driver_asked of_chip len command ≡ true → (command ≡ Some GetLine → request_fault (take (size_of GetLine) bytes) ≡ None)
    → (o : Op) × (op_of lines command bytes ≡ Some o)
has_op lines of_chip len None bytes asked go = absurd (false≢true asked)
has_op lines of_chip len (Some ChipInfo) bytes asked go = absurd (false≢true asked)
has_op lines of_chip len (Some LineInfo) bytes asked go = absurd (false≢true asked)
has_op lines of_chip len (Some Watch) bytes asked go = absurd (false≢true asked)
has_op lines of_chip len (Some Unwatch) bytes asked go = absurd (false≢true asked)
has_op lines of_chip len (Some GetLine) bytes asked go = requested (request_fault (take (size_of GetLine) bytes)) (take (size_of GetLine) bytes) (go refl)
has_op lines of_chip len (Some SetConfig) bytes asked go = (_, refl)
has_op lines of_chip len (Some GetValues) bytes asked go = (_, refl)
has_op lines of_chip len (Some SetValues) bytes asked go = (_, refl)

abbrev AsksAsSaid : ℕ → Option Op → DeviceCall → Type 0
AsksAsSaid n op call = (device_has call ≡ true) × AsksOp n op call × HasBits op call

chosen : (n : ℕ) (op : Option Op) (call : DeviceCall) (errno : Errno) (b : Bool) → AsksAsSaid n op call → ForCall (AsksAsSaid n op) (if b then Calls call else Refuses errno)
chosen n op call errno true asked = asked
chosen n op call errno false asked = tt

read_asks : (n : ℕ) (op : Option Op) (len : ℕ) (file : OpenFile) (of_chip : Bool) → ForCall (AsksAsSaid n op) (once (if of_chip then ReadInfo file.place file.fd len else ReadEdges file.place file.fd len))
read_asks n op len file true = (refl, tt, tt)
read_asks n op len file false = (refl, tt, tt)

read_on : (n : ℕ) (op : Option Op) (len : ℕ) (o : Option OpenFile) → ForCall (AsksAsSaid n op) (on_file o (λ file. once (reads_from len file)))
read_on n op len None = tt
read_on n op len (Some file) = read_asks n op len file file.of_chip

poll_asks : (n : ℕ) (op : Option Op) (file : OpenFile) (of_chip : Bool) → ForCall (AsksAsSaid n op) (once (if of_chip then PollChip file.place file.fd else PollLine file.place file.fd))
poll_asks n op file true = (refl, tt, tt)
poll_asks n op file false = (refl, tt, tt)

poll_on : (n : ℕ) (op : Option Op) (o : Option OpenFile) → ForCall (AsksAsSaid n op) (on_file o (λ file. once (polls file)))
poll_on n op None = tt
poll_on n op (Some file) = poll_asks n op file file.of_chip

close_on : (n : ℕ) (op : Option Op) (o : Option OpenFile) → ForCall (AsksAsSaid n op) (on_file o (λ file. once (Close file.fd)))
close_on n op None = tt
close_on n op (Some file) = (refl, tt, tt)

find_on : (n : ℕ) (op : Option Op) (name : List ℕ) (o : Option OpenFile) → ForCall (AsksAsSaid n op) (on_file o (λ file. once (Find (Some file.place) name)))
find_on n op name None = tt
find_on n op name (Some file) = (refl, tt, tt)

find_asks : (n : ℕ) (op : Option Op) (slot : Option ℕ) (name : List ℕ) (files : List OpenFile) → ForCall (AsksAsSaid n op) (finds slot name files)
find_asks n op None name files = (refl, tt, tt)
find_asks n op (Some slot) name files = find_on n op name (file_in slot files)

live_asks : (n : ℕ) (op : Option Op) (device : List ℕ) (up : Bool) → ForCall (AsksAsSaid n op) (lives device up)
live_asks n op device true = (refl, tt, tt)
live_asks n op device false = (refl, tt, tt)

command_asks : (n cmd : ℕ) (buffer : List ℕ) (o : Option OpenFile) → ForCall (AsksAsSaid n (op_on o cmd buffer)) (on_file o (λ file. Calls (Commanding (command_in file.place file.fd file.of_chip cmd buffer))))
command_asks n cmd buffer None = tt
command_asks n cmd buffer (Some file) =
    let c : CommandIn = command_in file.place file.fd file.of_chip cmd buffer in (
      refl,
      λ driven w reply is goes. has_op (lines_by file.of_chip file.lines buffer) c.of_chip c.len (command_of c.cmd) c.bytes driven
          (λ command. go_by_number w n c.place c.fd c.len c.bytes (command_of c.cmd) command (ap (λ r. is_go r) (sym is) ∙ goes)),
      command_bits (lines_by file.of_chip file.lines buffer) (command_of c.cmd) c.bytes,
    )

all_ask : (n : ℕ) (files : List OpenFile) (what : Do) → ForCall (AsksAsSaid n (op_asked files what)) (asking files what)
all_ask n files (DoProbe label lines) = chosen n None _ _ (has_lines lines) (refl, tt, tt)
all_ask n files (DoUnplug place) = chosen n None _ _ (nat_lt place PLACES) (refl, tt, tt)
all_ask n files (DoMakeDir path) = (refl, tt, tt)
all_ask n files (DoRemoveDir path) = (refl, tt, tt)
all_ask n files (DoWrite path value) = (refl, tt, tt)
all_ask n files (DoRead path) = (refl, tt, tt)
all_ask n files (DoLive device up) = live_asks n None device up
all_ask n files (DoTick mono real) = (refl, tt, tt)
all_ask n files (DoPin place what) = chosen n None _ _ (nat_lt place PLACES) (refl, tt, tt)
all_ask n files (DoIrq place offset what) = chosen n None _ _ (nat_lt place PLACES) (refl, tt, tt)
all_ask n files (DoPull place offset up) = chosen n None _ _ (nat_lt place PLACES) (refl, tt, tt)
all_ask n files (DoLevel place offset pull) = chosen n None _ _ (nat_lt place PLACES) (refl, tt, tt)
all_ask n files (DoOpenChip slot word) = (refl, tt, tt)
all_ask n files (DoFind slot name) = find_asks n None slot name files
all_ask n files (DoIoctl slot cmd len bytes made) = command_asks n cmd (buffer_of len bytes) (file_in slot files)
all_ask n files (ReadFile slot len) = read_on n None len (file_in slot files)
all_ask n files (Poll slot) = poll_on n None (file_in slot files)
all_ask n files (DoClose slot) = close_on n None (file_in slot files)
all_ask n files (Plan nth) = tt
all_ask n files (Accept bits) = tt
all_ask n files (Aggregate label slots count) = tt

asked_call : (n : ℕ) (files : List OpenFile) (what : Do) (call : DeviceCall) → asking files what ≡ Calls call → AsksAsSaid n (op_asked files what) call
asked_call n files what call is = subst (λ (x : Asking). ForCall (AsksAsSaid n (op_asked files what)) x) is (all_ask n files what)

-- of the call that an operation is
pub has_call : (files : List OpenFile) (what : Do) (call : DeviceCall) → asking files what ≡ Calls call → device_has call ≡ true
has_call files what call is = (asked_call 0 files what call is).0

pub asks_op : (n : ℕ) (files : List OpenFile) (what : Do) (call : DeviceCall) → asking files what ≡ Calls call → AsksOp n (op_asked files what) call
asks_op n files what call is = (asked_call n files what call is).1

pub has_bits : (files : List OpenFile) (what : Do) (call : DeviceCall) → asking files what ≡ Calls call → HasBits (op_asked files what) call
has_bits files what call is = (asked_call 0 files what call is).2

pub all_have_bits : (files : List OpenFile) (what : Do) → ForCall (HasBits (op_asked files what)) (asking files what)
all_have_bits files what = for_call (AsksAsSaid 0 (op_asked files what)) (HasBits (op_asked files what)) (λ call asked. asked.2) (asking files what) (all_ask 0 files what)
