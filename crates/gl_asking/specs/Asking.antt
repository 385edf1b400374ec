-- What each operation of a client is on the device, and what it is answered. That an operation on a slot without a file is EBADF,
-- and one at a place or with a number of lines that no chip has is refused, all without a call, is this project's choice. So is that whoever
-- keeps no maps of lines refuses a chip over requests with ENOSPC.
use Rattle.std.specs.Prelude.{ℕ, Bool, true, false, ◌&&◌, nat_eq, nat_le, nat_lt, if◌then◌else◌, List, take, length, drop, replicate, ◌++◌, Option, Some, None, Result, Ok, Err}
use Rattle.gl_base.specs.Padded.{padded}
use Rattle.gl_base.specs.declared.command.TheConstants.{GET_LINE}
use Rattle.gl_base.specs.declared.errno.Errno.{Errno}
use Rattle.gl_base.specs.declared.errno.Errno.TheVariants.{BadF, Inval, NoEnt, NoSpc}
use Rattle.gl_base.specs.declared.kind.Kind.TheVariants.{Simulated}
use Rattle.gl_base.specs.declared.lines.Lines.{Lines}
use Rattle.gl_base.specs.declared.limits.TheConstants.{LINES_MAX, PLACES}
use Rattle.gl_base.specs.declared.operation.Do.{Do}
use Rattle.gl_base.specs.declared.operation.Do.TheVariants.{Probe as DoProbe, Unplug as DoUnplug, MakeDir as DoMakeDir, RemoveDir as DoRemoveDir, Write as DoWrite, Read as DoRead, Live as DoLive, Tick as DoTick, Pin as DoPin, Irq as DoIrq, Pull as DoPull, Level as DoLevel, OpenChip as DoOpenChip, Find as DoFind, Ioctl as DoIoctl, ReadFile, Poll, Close as DoClose, Plan, Accept, Aggregate}
use Rattle.gl_base.specs.declared.operation.Got.{Got}
use Rattle.gl_base.specs.declared.operation.Got.TheVariants.{Done as GotDone, Number as GotNumber, Found as GotFound, Text as GotText, Bytes, Ready as GotReady, Refused as GotRefused}
use Rattle.gl_uapi.specs.declared.layout.TheConstants.{LINE_REQUEST_SIZE}
use Rattle.gl_model.specs.AskedLines.{lines_asked}
use Rattle.gl_model.specs.declared.device_call.DeviceCall.TheVariants.{Once, Removing, Commanding}
use Rattle.gl_model.specs.declared.device_call.RemovalOf.TheVariants.{OfChip, OfDevice}
use Rattle.gl_model.specs.declared.call.Call.{Call}
use Rattle.gl_model.specs.declared.call.Call.TheVariants.{Probe, MakeDir, RemoveDir, Write, Read, Live, Tick, Pin, Irq, Pull, Level, OpenChip, Find, ReadEdges, ReadInfo, PollLine, PollChip, Close}
use Rattle.gl_model.specs.declared.reply.Reply.{Reply}
use Rattle.gl_model.specs.declared.reply.Reply.TheVariants.{Number}
use Rattle.gl_asking.specs.declared.kinds.Asking.{Asking}
use Rattle.gl_asking.specs.declared.kinds.Asking.TheVariants.{Calls, Plans, Accepts, Refuses}
use Rattle.gl_asking.specs.Files.{OpenFile, chip_file, file_in, line_file, with_file, without_file}
use Rattle.gl_asking.specs.Handed.{command_in, handed_in}
use Rattle.gl_asking.specs.Opened.{ChipFile, opened_of}
use Rattle.gl_asking.specs.Results.{done_of, found_of, level_of, number_of, ready_of, text_of}

-- one call of the machine
abbrev pub once : Call → Asking
once call = Calls (Once call)

-- at a place that a device has
abbrev pub at_place : ℕ → Asking → Asking
at_place place asking = if nat_lt place PLACES then asking else Refuses NoEnt

-- on an open file
abbrev pub on_file : Option OpenFile → (OpenFile → Asking) → Asking
on_file None on = Refuses BadF
on_file (Some file) on = on file

-- a simulated chip has 1 to `LINES_MAX` lines
abbrev pub has_lines : ℕ → Bool
has_lines lines = nat_le 1 lines && nat_le lines LINES_MAX

abbrev pub probes : List ℕ → ℕ → Asking
probes label lines = if has_lines lines then once (Probe label lines Simulated) else Refuses Inval

-- a device comes up by one call, and goes down by a removal
abbrev pub lives : List ℕ → Bool → Asking
lives device true = once (Live device)
lives device false = Calls (Removing (OfDevice device))

-- lines are looked for on the chip of a file, or on all
abbrev pub finds : Option ℕ → List ℕ → List OpenFile → Asking
finds None name files = once (Find None name)
finds (Some slot) name files = on_file (file_in slot files) (λ file. once (Find (Some file.place) name))

-- the buffer of a command: so many of its bytes, and zeros where it is longer
abbrev pub buffer_of : ℕ → List ℕ → List ℕ
buffer_of len bytes = padded len (take len bytes)

abbrev pub reads_from : ℕ → OpenFile → Call
reads_from len file = if file.of_chip then ReadInfo file.place file.fd len else ReadEdges file.place file.fd len

abbrev pub polls : OpenFile → Call
polls file = if file.of_chip then PollChip file.place file.fd else PollLine file.place file.fd

-- what an operation is, with these files open
abbrev pub asking : List OpenFile → Do → Asking
asking files (DoProbe label lines) = probes label lines
asking files (DoUnplug place) = at_place place (Calls (Removing (OfChip place)))
asking files (DoMakeDir path) = once (MakeDir path)
asking files (DoRemoveDir path) = once (RemoveDir path)
asking files (DoWrite path value) = once (Write path value)
asking files (DoRead path) = once (Read path)
asking files (DoLive device up) = lives device up
asking files (DoTick mono real) = once (Tick mono real)
asking files (DoPin place what) = at_place place (once (Pin place what))
asking files (DoIrq place offset what) = at_place place (once (Irq place offset what))
asking files (DoPull place offset up) = at_place place (once (Pull place offset up))
asking files (DoLevel place offset pull) = at_place place (once (Level place offset pull))
asking files (DoOpenChip slot word) = once (OpenChip word)
asking files (DoFind slot name) = finds slot name files
asking files (DoIoctl slot cmd len bytes made) =
    on_file (file_in slot files) (λ file. Calls (Commanding (command_in file.place file.fd file.of_chip cmd (buffer_of len bytes))))
asking files (ReadFile slot len) = on_file (file_in slot files) (λ file. once (reads_from len file))
asking files (Poll slot) = on_file (file_in slot files) (λ file. once (polls file))
asking files (DoClose slot) = on_file (file_in slot files) (λ file. once (Close file.fd))
asking files (Plan nth) = Plans nth
asking files (Accept bits) = Accepts bits
asking files (Aggregate label slots count) = Refuses NoSpc

-- the lines that the structure in a buffer names
abbrev pub lines_named : List ℕ → Lines
lines_named buffer = lines_asked (take LINE_REQUEST_SIZE (handed_in buffer))

-- what a talk gets of a call's result: what its value comes to, or that it was refused
abbrev pub got_by : {X : Type 0} → (X → Got) → Result X Errno → Got
got_by value (Ok x) = value x
got_by value (Err errno) = GotRefused errno

abbrev pub level_got : Bool → Got
level_got true = GotNumber 1
level_got false = GotNumber 0

abbrev pub found_got : ℕ × ℕ × ℕ → Got
found_got (place, offset, count) = GotFound place offset count

-- a buffer after a call that wrote this at its start
abbrev pub written_over : List ℕ → List ℕ → List ℕ
written_over wrote buffer = wrote ++ drop (length wrote) buffer

-- What a talk gets of an operation, by the machine's reply and what was written: of a command the first bytes of its buffer, at most as
-- many as the longest structure has, and of a read as many bytes as were read.
abbrev pub got_of : Do → Reply → List ℕ → Got
got_of (DoProbe label lines) reply wrote = got_by GotNumber (number_of reply)
got_of (DoRead path) reply wrote = got_by GotText (text_of reply)
got_of (DoLevel place offset pull) reply wrote = got_by level_got (level_of reply)
got_of (DoOpenChip slot word) reply wrote = got_by (λ file. GotNumber file.fd) (opened_of word reply)
got_of (DoFind slot name) reply wrote = got_by found_got (found_of reply)
got_of (DoIoctl slot cmd len bytes made) reply wrote = got_by (λ _. Bytes (take LINE_REQUEST_SIZE (written_over wrote (buffer_of len bytes)))) (done_of reply)
got_of (ReadFile slot len) reply wrote = got_by (λ count. Bytes (take count (written_over wrote (replicate len 0)))) (number_of reply)
got_of (Poll slot) reply wrote = got_by GotReady (ready_of reply)
got_of _ reply wrote = got_by (λ _. GotDone) (done_of reply)

-- the files with one that was opened
abbrev pub opened : ℕ → Result ChipFile Errno → List OpenFile → List OpenFile
opened slot (Ok file) files = with_file (chip_file slot file.place file.fd) files
opened slot (Err errno) files = files

-- the files with a request of these lines that was made at this place, by the reply
abbrev pub with_request : ℕ → ℕ → Lines → Reply → List OpenFile → List OpenFile
with_request slot place lines (Number fd) files = with_file (line_file slot place fd lines) files
with_request slot place lines _ files = files

-- a request is made on a chip's file alone
abbrev pub made_by : Bool → ℕ → ℕ → Lines → Reply → List OpenFile → List OpenFile
made_by true slot place lines reply files = with_request slot place lines reply files
made_by false slot place lines reply files = files

abbrev pub made_on : ℕ → Option OpenFile → Lines → Reply → List OpenFile → List OpenFile
made_on slot None lines reply files = files
made_on slot (Some file) lines reply files = made_by file.of_chip slot file.place lines reply files

-- The files after an operation with this reply. A file that was to be closed is gone, whatever the answer.
abbrev pub files_behind : Do → Reply → List OpenFile → List OpenFile
files_behind (DoOpenChip slot word) reply files = opened slot (opened_of word reply) files
files_behind (DoIoctl slot cmd len bytes made) reply files = if nat_eq cmd GET_LINE then made_on made (file_in slot files) (lines_named (buffer_of len bytes)) reply files else files
files_behind (DoClose slot) reply files = without_file slot files
files_behind _ reply files = files

-- the file that an operation names, if it names one and it is there
abbrev pub file_for : Do → List OpenFile → Option OpenFile
file_for (DoFind (Some slot) name) files = file_in slot files
file_for (DoIoctl slot cmd len bytes made) files = file_in slot files
file_for (ReadFile slot len) files = file_in slot files
file_for (Poll slot) files = file_in slot files
file_for (DoClose slot) files = file_in slot files
file_for _ files = None
