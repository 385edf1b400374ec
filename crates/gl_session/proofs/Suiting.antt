-- What an operation hands to its call, and what it takes from it.
use Rattle.std.proofs.Common.{◌≡◌, ℕ, ◌<◌, ◌^◌, Bool, true, false, List, take, Option, None, Some, refl, sym, ap, ◌∙◌, subst, arith}
use Rattle.std.specs.Prelude.{nat_lt, if◌then◌else◌}
use Rattle.std.proofs.lemmas.Bool.{true≢false}
use Rattle.std.proofs.lemmas.List.{length-replicate}
use Rattle.gl_base.specs.Lines.{IsLineCount}
use Rattle.gl_base.specs.declared.errno.Errno.{Errno}
use Rattle.gl_base.specs.declared.limits.TheConstants.{PLACES}
use Rattle.gl_base.specs.declared.lines.Lines.{Lines}
use Rattle.gl_base.specs.declared.op.Op.{Op}
use Rattle.gl_base.specs.declared.operation.Do.{Do}
use Rattle.gl_base.specs.declared.operation.Do.TheVariants.{Probe as DoProbe, Unplug as DoUnplug, MakeDir as DoMakeDir, RemoveDir as DoRemoveDir, Write as DoWrite, Read as DoRead, Live as DoLive, Tick as DoTick, Pin as DoPin, Irq as DoIrq, Pull as DoPull, Level as DoLevel, OpenChip as DoOpenChip, Find as DoFind, Ioctl as DoIoctl, ReadFile, Poll, Close as DoClose, Plan, Accept, Aggregate}
use Rattle.gl_driver.specs.declared.map.Target.{Target}
use Rattle.gl_uapi.specs.Command.{command_of, size_of}
use Rattle.gl_uapi.specs.declared.commands.Command.{Command}
use Rattle.gl_uapi.specs.declared.commands.Command.TheVariants.{GetLine}
use Rattle.gl_model.specs.AskedLines.{lines_asked, request_fault}
use Rattle.gl_model.specs.Replies.{has_form}
use Rattle.gl_model.specs.Written.{number_answered}
use Rattle.gl_model.specs.declared.call.Call.TheVariants.{Close, Find, OpenChip, PollChip, PollLine, ReadEdges, ReadInfo}
use Rattle.gl_model.specs.declared.device_call.DeviceCall.{DeviceCall}
use Rattle.gl_model.specs.declared.device_call.DeviceCall.TheVariants.{Commanding}
use Rattle.gl_model.specs.declared.reply.Reply.{Reply}
use Rattle.gl_model.specs.declared.reply.Reply.TheVariants.{Done, Number, Go, Found, Text, Ready, Refused}
use Rattle.gl_asking.specs.Asking.{buffer_of, file_for, finds, has_lines, lines_named, lives, on_file, once, polls, reads_from}
use Rattle.gl_asking.specs.Changes.{IsFilled, NamesMade, OpensWithin}
use Rattle.gl_asking.specs.Driving.{lines_by, op_asked, op_for, op_of, op_on, op_requested}
use Rattle.gl_asking.specs.Files.{OpenFile, file_in}
use Rattle.gl_asking.specs.Handed.{command_in, handed_in}
use Rattle.gl_asking.specs.Rows.{HasLines, IsSomeRow, file_of, is_chip, is_on_chip, kind_of, lines_of}
use Rattle.gl_asking.specs.declared.kinds.Answered.{Answered}
use Rattle.gl_asking.specs.declared.kinds.Asking.{Asking}
use Rattle.gl_asking.specs.declared.kinds.Asking.TheVariants.{Calls, Plans, Accepts, Refuses}
use Rattle.gl_asking.specs.declared.kinds.FileKind.{FileKind}
use Rattle.gl_asking.specs.declared.kinds.FileKind.TheVariants.{Chip, Request}
use Rattle.gl_asking.specs.declared.kinds.FileRow.{FileRow}
use Rattle.gl_chip.specs.Called.{HasCalled}
use Rattle.gl_chip.specs.DriverCommands.{IsOp}
use Rattle.gl_chip.specs.Orders.{AnswersOrder, FitsFile, FitsOut, GivesLines, WroteTo, op_ordered}
use Rattle.gl_chip.specs.Values.{OneView}
use Rattle.gl_chip.proofs.OpenedChips.{named_within, opened_in}
use Rattle.gl_check.specs.Buffers.{buffer_for}
use Rattle.gl_check.specs.Joining.{Maps, asking_with, joining_fault, joins, targets_in}

-- An operation suits its call, on a file of this kind: what the driver is asked for it, its buffer before the call and after it, and the
-- files that it opens.
pub record Suits (what : Do) (asked : Option Op) (on : FileKind) (call : DeviceCall) : Type 0 where
  pub file : FitsFile call on
  pub buffer : FitsOut call (buffer_for what)
  pub op : asked ≡ op_ordered call on
  pub filled : (bytes new : List ℕ) → WroteTo call bytes (buffer_for what) new → IsFilled what bytes new
  pub opens : (limit : ℕ) (v w : OneView) (reply : Reply) (bytes : List ℕ) → HasCalled limit v call reply bytes w → AnswersOrder call on reply → OpensWithin what reply
  pub named : (row : Option FileRow) (answered : Answered) → kind_of row ≡ on → GivesLines call on answered → NamesMade what row answered

abbrev ForCall : (DeviceCall → Type 0) → Asking → Type 0
ForCall P (Calls call) = P call
ForCall P (Plans nth) = Unit {0}
ForCall P (Accepts bits) = Unit {0}
ForCall P (Refuses errno) = Unit {0}

abbrev ForOp : (what : Do) → Option Op → FileKind → Asking → Type 0
ForOp what asked on asks = ForCall (Suits what asked on) asks

chosen : (what : Do) (on : FileKind) (call : DeviceCall) (errno : Errno) (b : Bool) → Suits what None on call → ForOp what None on (if b then Calls call else Refuses errno)
chosen what on call errno true suits = suits
chosen what on call errno false suits = tt

read_suits : (slot len : ℕ) (on : FileKind) (file : OpenFile) (of_chip : Bool) → ForOp (ReadFile slot len) None on (once (if of_chip then ReadInfo file.place file.fd len else ReadEdges file.place file.fd len))
read_suits slot len on file true = record { file = tt; buffer = length-replicate len 0; op = refl; filled = λ bytes new w. w; opens = λ limit v w reply bytes called form. tt; named = λ row answered at gives. tt }
read_suits slot len on file false = record { file = tt; buffer = length-replicate len 0; op = refl; filled = λ bytes new w. w; opens = λ limit v w reply bytes called form. tt; named = λ row answered at gives. tt }

read_on : (slot len : ℕ) (on : FileKind) (o : Option OpenFile) → ForOp (ReadFile slot len) None on (on_file o (λ file. once (reads_from len file)))
read_on slot len on None = tt
read_on slot len on (Some file) = read_suits slot len on file file.of_chip

poll_suits : (slot : ℕ) (on : FileKind) (file : OpenFile) (of_chip : Bool) → ForOp (Poll slot) None on (once (if of_chip then PollChip file.place file.fd else PollLine file.place file.fd))
poll_suits slot on file true = record { file = tt; buffer = tt; op = refl; filled = λ bytes new w. tt; opens = λ limit v w reply bytes called form. tt; named = λ row answered at gives. tt }
poll_suits slot on file false = record { file = tt; buffer = tt; op = refl; filled = λ bytes new w. tt; opens = λ limit v w reply bytes called form. tt; named = λ row answered at gives. tt }

poll_on : (slot : ℕ) (on : FileKind) (o : Option OpenFile) → ForOp (Poll slot) None on (on_file o (λ file. once (polls file)))
poll_on slot on None = tt
poll_on slot on (Some file) = poll_suits slot on file file.of_chip

close_on : (slot : ℕ) (on : FileKind) (o : Option OpenFile) → ForOp (DoClose slot) None on (on_file o (λ file. once (Close file.fd)))
close_on slot on None = tt
close_on slot on (Some file) = record { file = tt; buffer = tt; op = refl; filled = λ bytes new w. tt; opens = λ limit v w reply bytes called form. tt; named = λ row answered at gives. tt }

find_on : (slot : ℕ) (name : List ℕ) (on : FileKind) (o : Option OpenFile) → ForOp (DoFind (Some slot) name) None on (on_file o (λ file. once (Find (Some file.place) name)))
find_on slot name on None = tt
find_on slot name on (Some file) = record { file = tt; buffer = tt; op = refl; filled = λ bytes new w. tt; opens = λ limit v w reply bytes called form. tt; named = λ row answered at gives. tt }

find_suits : (slot : Option ℕ) (name : List ℕ) (on : FileKind) (files : List OpenFile) → ForOp (DoFind slot name) None on (finds slot name files)
find_suits None name on files = record { file = tt; buffer = tt; op = refl; filled = λ bytes new w. tt; opens = λ limit v w reply bytes called form. tt; named = λ row answered at gives. tt }
find_suits (Some slot) name on files = find_on slot name on (file_in slot files)

live_suits : (device : List ℕ) (up : Bool) (on : FileKind) → ForOp (DoLive device up) None on (lives device up)
live_suits device true on = record { file = tt; buffer = tt; op = refl; filled = λ bytes new w. tt; opens = λ limit v w reply bytes called form. tt; named = λ row answered at gives. tt }
live_suits device false on = record { file = tt; buffer = tt; op = refl; filled = λ bytes new w. tt; opens = λ limit v w reply bytes called form. tt; named = λ row answered at gives. tt }

-- a reply that tells a number tells a small one

small : (reply : Reply) → ((n : ℕ) → reply ≡ Number n → n < 2 ^ 31) → number_answered reply < 2 ^ 32
small Done h = omega arith
small (Number n) h = let below : n < 2 ^ 31 = h n refl in omega (arith, below)
small (Go n) h = omega arith
small (Found p o c) h = omega arith
small (Text t) h = omega arith
small (Ready b) h = omega arith
small (Refused e) h = omega arith

opened_small : (word : List ℕ) (reply : Reply) → has_form (OpenChip word) reply ≡ true → number_answered reply < 2 ^ 32
opened_small word Done h = omega arith
opened_small word (Number n) h = let below : n < 2 ^ 31 = grind (arith, h) in omega (arith, below)
opened_small word (Go n) h = omega arith
opened_small word (Found p o c) h = omega arith
opened_small word (Text t) h = omega arith
opened_small word (Ready b) h = omega arith
opened_small word (Refused e) h = omega arith

-- commands

-- whoever is asked for a request has 1 to 64 lines
requested_count : (fault : Option Errno) (bytes : List ℕ) → IsOp (op_requested fault bytes) → IsLineCount (lines_asked bytes).count
requested_count None bytes is = is.0
requested_count (Some errno) bytes is = absurd is

command_count : (lines : Lines) (command : Option Command) (buffer : List ℕ) (place fd cmd : ℕ) (of_chip : Bool) → command ≡ Some GetLine → IsOp (op_of lines command (command_in place fd of_chip cmd buffer).bytes) → IsLineCount (lines_named buffer).count
command_count lines command buffer place fd cmd of_chip is op =
    let bytes : List ℕ = take (size_of GetLine) (handed_in buffer) in
    requested_count (request_fault bytes) bytes (subst (λ (o : Option Command). IsOp (op_of lines o (command_in place fd of_chip cmd buffer).bytes)) is op)

command_opens : (slot cmd len made place fd : ℕ) (bytes : List ℕ) (of_chip : Bool) (lines : Lines) (reply : Reply)
    → ((n : ℕ) → reply ≡ Number n → (n < 2 ^ 31) × IsOp (op_for lines (command_in place fd of_chip cmd (buffer_of len bytes)))) → OpensWithin (DoIoctl slot cmd len bytes made) reply
command_opens slot cmd len made place fd bytes of_chip lines reply form = (
  small reply (λ n e. (form n e).0),
  λ is n e. command_count lines (command_of cmd) (buffer_of len bytes) place fd cmd of_chip (ap command_of is) (form n e).1,
)

-- a row of a request isn't a chip's
request_on : (row : Option FileRow) (lines : Lines) → kind_of row ≡ Request lines → is_on_chip row ≡ false
request_on None lines at = refl
request_on (Some row) lines at = ap is_chip at

command_kind : (slot cmd len made place fd : ℕ) (bytes : List ℕ) (on : FileKind) → HasLines on
    → Suits (DoIoctl slot cmd len bytes made) (op_for (lines_by (is_chip on) (lines_of on) (buffer_of len bytes)) (command_in place fd (is_chip on) cmd (buffer_of len bytes))) on
    (Commanding (command_in place fd (is_chip on) cmd (buffer_of len bytes)))
command_kind slot cmd len made place fd bytes Chip has = record {
  file = (refl, tt);
  buffer = refl;
  op = refl;
  filled = λ wrote new w. w;
  opens = λ limit v w reply wrote called form. command_opens slot cmd len made place fd bytes true (lines_named (buffer_of len bytes)) reply form;
  named = λ row answered at gives. λ is n e chip. gives n e;
}
command_kind slot cmd len made place fd bytes (Request lines) has = record {
  file = (refl, has);
  buffer = refl;
  op = refl;
  filled = λ wrote new w. w;
  opens = λ limit v w reply wrote called form. command_opens slot cmd len made place fd bytes false lines reply form;
  named = λ row answered at gives. λ is n e chip. absurd (true≢false (sym chip ∙ request_on row lines at));
}

command_on : (slot cmd len made : ℕ) (bytes : List ℕ) (row : Option FileRow) (o : Option OpenFile) → IsSomeRow row → o ≡ file_of row
    → ForOp (DoIoctl slot cmd len bytes made) (op_on o cmd (buffer_of len bytes)) (kind_of row) (on_file o (λ file. Calls (Commanding (command_in file.place file.fd file.of_chip cmd (buffer_of len bytes)))))
command_on slot cmd len made bytes None o is at =
    subst (λ (f : Option OpenFile). ForOp (DoIoctl slot cmd len bytes made) (op_on f cmd (buffer_of len bytes)) Chip (on_file f (λ file. Calls (Commanding (command_in file.place file.fd file.of_chip cmd (buffer_of len bytes))))))
    (sym at) tt
command_on slot cmd len made bytes (Some row) o is at =
    subst (λ (f : Option OpenFile). ForOp (DoIoctl slot cmd len bytes made) (op_on f cmd (buffer_of len bytes)) row.kind (on_file f (λ file. Calls (Commanding (command_in file.place file.fd file.of_chip cmd (buffer_of len bytes))))))
    (sym at) (command_kind slot cmd len made row.place row.fd bytes row.kind is.lines)

-- every operation

-- a chip over requests is probed, where it isn't refused
join_suits : (label slots label_of : List ℕ) (count : ℕ) (on : FileKind) (targets : List Target) (fault : Option Errno) → ForOp (Aggregate label slots count) None on (joins fault label_of targets)
join_suits label slots label_of count on targets None = record { file = tt; buffer = tt; op = refl; filled = λ bytes new w. tt; opens = λ limit v w reply bytes called form. tt; named = λ row answered at gives. tt }
join_suits label slots label_of count on targets (Some errno) = tt

module _ (m : Maps) (files : List OpenFile) (row : Option FileRow) where
  open_suits : (slot : ℕ) (word : List ℕ) → ForOp (DoOpenChip slot word) None (kind_of row) (once (OpenChip word))
  open_suits slot word = record {
    file = tt;
    buffer = tt;
    op = refl;
    filled = λ bytes new w. tt;
    opens = λ limit v w reply bytes called form. (opened_small word reply form, named_within v w word reply (opened_in limit v w word reply bytes called));
    named = λ row answered at gives. tt;
  }

  suits : (what : Do) → IsSomeRow row → file_for what files ≡ file_of row → ForOp what (op_asked files what) (kind_of row) (asking_with m files what)
  suits (DoProbe label lines) is at = chosen (DoProbe label lines) _ _ _ (has_lines lines) (record { file = tt; buffer = tt; op = refl; filled = λ bytes new w. tt; opens = λ limit v w reply bytes called form. tt; named = λ row answered at gives. tt })
  suits (DoUnplug place) is at = chosen (DoUnplug place) _ _ _ (nat_lt place PLACES) (record { file = tt; buffer = tt; op = refl; filled = λ bytes new w. tt; opens = λ limit v w reply bytes called form. tt; named = λ row answered at gives. tt })
  suits (DoMakeDir path) is at = record { file = tt; buffer = tt; op = refl; filled = λ bytes new w. tt; opens = λ limit v w reply bytes called form. tt; named = λ row answered at gives. tt }
  suits (DoRemoveDir path) is at = record { file = tt; buffer = tt; op = refl; filled = λ bytes new w. tt; opens = λ limit v w reply bytes called form. tt; named = λ row answered at gives. tt }
  suits (DoWrite path value) is at = record { file = tt; buffer = tt; op = refl; filled = λ bytes new w. tt; opens = λ limit v w reply bytes called form. tt; named = λ row answered at gives. tt }
  suits (DoRead path) is at = record { file = tt; buffer = tt; op = refl; filled = λ bytes new w. tt; opens = λ limit v w reply bytes called form. tt; named = λ row answered at gives. tt }
  suits (DoLive device up) is at = live_suits device up (kind_of row)
  suits (DoTick mono real) is at = record { file = tt; buffer = tt; op = refl; filled = λ bytes new w. tt; opens = λ limit v w reply bytes called form. tt; named = λ row answered at gives. tt }
  suits (DoPin place what) is at = chosen (DoPin place what) _ _ _ (nat_lt place PLACES) (record { file = tt; buffer = tt; op = refl; filled = λ bytes new w. tt; opens = λ limit v w reply bytes called form. tt; named = λ row answered at gives. tt })
  suits (DoIrq place offset what) is at = chosen (DoIrq place offset what) _ _ _ (nat_lt place PLACES) (record { file = tt; buffer = tt; op = refl; filled = λ bytes new w. tt; opens = λ limit v w reply bytes called form. tt; named = λ row answered at gives. tt })
  suits (DoPull place offset up) is at = chosen (DoPull place offset up) _ _ _ (nat_lt place PLACES) (record { file = tt; buffer = tt; op = refl; filled = λ bytes new w. tt; opens = λ limit v w reply bytes called form. tt; named = λ row answered at gives. tt })
  suits (DoLevel place offset pull) is at = chosen (DoLevel place offset pull) _ _ _ (nat_lt place PLACES) (record { file = tt; buffer = tt; op = refl; filled = λ bytes new w. tt; opens = λ limit v w reply bytes called form. tt; named = λ row answered at gives. tt })
  suits (DoOpenChip slot word) is at = open_suits slot word
  suits (DoFind slot name) is at = find_suits slot name (kind_of row) files
  suits (DoIoctl slot cmd len bytes made) is at = command_on slot cmd len made bytes row (file_in slot files) is at
  suits (ReadFile slot len) is at = read_on slot len (kind_of row) (file_in slot files)
  suits (Poll slot) is at = poll_on slot (kind_of row) (file_in slot files)
  suits (DoClose slot) is at = close_on slot (kind_of row) (file_in slot files)
  suits (Plan nth) is at = tt
  suits (Accept bits) is at = tt
  suits (Aggregate label slots count) is at = let targets : List Target = targets_in (take count slots) files in join_suits label slots label count (kind_of row) targets (joining_fault m targets)

  -- of the call that an operation is
  pub suits_call : (what : Do) (call : DeviceCall) → IsSomeRow row → file_for what files ≡ file_of row → Calls call ≡ asking_with m files what → Suits what (op_asked files what) (kind_of row) call
  suits_call what call is at asks = subst (λ (a : Asking). ForOp what (op_asked files what) (kind_of row) a) (sym asks) (suits what is at)
