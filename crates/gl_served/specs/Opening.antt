-- A reply that opens a file tells a number of 32 bits; only a word that names a place opens a chip, and only a structure that names 1 to
-- 64 lines makes a request. The lines of that request come with the reply.
use Rattle.std.specs.Prelude.{◌≡◌, ℕ, ◌<◌, ◌^◌, take, true, Option, None, Some, Result, Ok, Err}
use Rattle.gl_base.specs.Lines.{IsLineCount}
use Rattle.gl_base.specs.declared.errno.Errno.{Errno}
use Rattle.gl_base.specs.declared.limits.TheConstants.{PLACES}
use Rattle.gl_base.specs.declared.lines.Lines.{Lines}
use Rattle.gl_uapi.specs.Command.{command_of}
use Rattle.gl_uapi.specs.declared.commands.Command.TheVariants.{GetLine}
use Rattle.gl_uapi.specs.declared.layout.TheConstants.{LINE_REQUEST_SIZE}
use Rattle.gl_asking.specs.Opened.{place_named}
use Rattle.gl_model.specs.AskedLines.{AskedLines, lines_asked}
use Rattle.gl_model.specs.Entries.{is_go}
use Rattle.gl_model.specs.Written.{number_answered}
use Rattle.gl_model.specs.declared.call.Call.{Call}
use Rattle.gl_model.specs.declared.call.Call.TheVariants.{Ioctl, OpenChip}
use Rattle.gl_model.specs.declared.call.Part.TheVariants.{Whole, Ask}
use Rattle.gl_model.specs.declared.device_call.DeviceCall.{DeviceCall}
use Rattle.gl_model.specs.declared.device_call.DeviceCall.TheVariants.{Once, Removing, Commanding}
use Rattle.gl_model.specs.declared.reply.Reply.{Reply}
use Rattle.gl_model.specs.declared.reply.Reply.TheVariants.{Number}

-- the number in a reply of the machine to this call
abbrev pub NumberFits : Call → Reply → Type 0
NumberFits (OpenChip word) reply = (number_answered reply < 2 ^ 32) × ((fd : ℕ) → reply ≡ Number fd → place_named word < PLACES)
NumberFits (Ioctl place fd cmd len bytes part) reply = number_answered reply < 2 ^ 32
NumberFits _ reply = Unit {0}

-- and of the device
abbrev pub NumbersBy : DeviceCall → Reply → Type 0
NumbersBy (Once call) reply = NumberFits call reply
NumbersBy (Removing removal) reply = Unit {0}
NumbersBy (Commanding c) reply = number_answered reply < 2 ^ 32

-- the lines of a request that was made
abbrev pub LinesBy : DeviceCall → Reply → Type 0
LinesBy (Once call) reply = Unit {0}
LinesBy (Removing removal) reply = Unit {0}
LinesBy (Commanding c) reply = command_of c.cmd ≡ Some GetLine → (fd : ℕ) → reply ≡ Number fd → IsLineCount (lines_asked (take LINE_REQUEST_SIZE c.bytes)).count

-- the lines that are asked for by what an ask brings, where the bytes alone don't have it refused
abbrev pub lines_brought : Option (Result AskedLines Errno) → Option Lines
lines_brought None = None
lines_brought (Some (Err errno)) = None
lines_brought (Some (Ok asked)) = Some asked.lines

-- The lines that come with a reply of the machine: an ask of GET_LINE that goes on has those that its structure names. No command is answered
-- a number before its tell.
abbrev pub LinesFit : Call → Reply → Option Lines → Type 0
LinesFit (Ioctl place fd cmd len bytes Whole) reply lines = (n : ℕ) → reply ≡ Number n → ⊥
LinesFit (Ioctl place fd cmd len bytes Ask) reply lines =
    ((n : ℕ) → reply ≡ Number n → ⊥) × (command_of cmd ≡ Some GetLine → is_go reply ≡ true → lines ≡ Some (lines_asked (take LINE_REQUEST_SIZE bytes)))
LinesFit _ reply lines = Unit {0}

-- and of the device: those of a request that was made
abbrev pub GivesLines : DeviceCall → Reply → Option Lines → Type 0
GivesLines (Once call) reply lines = Unit {0}
GivesLines (Removing removal) reply lines = Unit {0}
GivesLines (Commanding c) reply lines = command_of c.cmd ≡ Some GetLine → (n : ℕ) → reply ≡ Number n → lines ≡ Some (lines_asked (take LINE_REQUEST_SIZE c.bytes))
