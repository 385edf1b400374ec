-- Which replies each call may have in a text. This project's choice.
use Rattle.std.specs.Prelude.{ℕ, Bool, true, false, ◌==◌, ◌||◌, if◌then◌else◌, Option, Some, None}
use Rattle.gl_uapi.specs.Command.{command_of}
use Rattle.gl_uapi.specs.declared.commands.Command.{Command}
use Rattle.gl_uapi.specs.declared.commands.Command.TheVariants.{GetLine}
use Rattle.gl_model.specs.declared.call.Call.{Call}
use Rattle.gl_model.specs.declared.call.Call.TheVariants.{Probe, Read, Level, OpenChip, Find, Ioctl, ReadEdges, ReadInfo, PollLine, PollChip, Refused as RefusedCall}
use Rattle.gl_model.specs.declared.call.Part.{Part}
use Rattle.gl_model.specs.declared.call.Part.TheVariants.{Whole, Ask, Tell}
use Rattle.gl_model.specs.declared.reply.Reply.{Reply}
use Rattle.gl_model.specs.declared.reply.Reply.TheVariants.{Done, Number, Go, Found, Text, Ready, Refused}
use Rattle.gl_model.specs.OpenFiles.{has_part}
use Rattle.gl_trace.specs.declared.form.Form.{Form}
use Rattle.gl_trace.specs.declared.form.Form.TheVariants.{Nothing, ANumber, AGo, AFound, AText, AReady, Never}

-- what a command is answered in a part that it has
abbrev pub part_form : Command → Part → Form
part_form GetLine Whole = Nothing
part_form GetLine Ask = AGo
part_form GetLine (Tell answer) = ANumber
part_form command Whole = Nothing
part_form command Ask = AGo
part_form command (Tell answer) = Nothing

-- a number that is no command's is always refused, and so is a part that its command hasn't
abbrev pub command_form : Option Command → Part → Form
command_form None part = Never
command_form (Some command) part = if has_part command part then part_form command part else Never

-- the form of what a call is answered that isn't refused
abbrev pub form_of : Call → Form
form_of (Probe label lines kind) = ANumber
form_of (Read path) = AText
form_of (Level place offset pull) = ANumber
form_of (OpenChip word) = ANumber
form_of (Find place name) = AFound
form_of (Ioctl place fd cmd len bytes part) = command_form (command_of cmd) part
form_of (ReadEdges place fd len) = ANumber
form_of (ReadInfo place fd len) = ANumber
form_of (PollLine place fd) = AReady
form_of (PollChip place fd) = AReady
form_of (RefusedCall place true) = AReady
form_of (RefusedCall place false) = Never
form_of call = Nothing

-- nothing, a read, or an error and a hang-up
abbrev pub is_readiness : ℕ → Bool
is_readiness bits = bits == 0 || (bits == 1 || bits == 6)

-- a reply is a refusal, or of the form
abbrev pub is_of : Form → Reply → Bool
is_of form (Refused errno) = true
is_of Nothing Done = true
is_of ANumber (Number n) = true
is_of AGo (Go n) = true
is_of AFound (Found place offset count) = true
is_of AText (Text text) = true
is_of AReady (Ready bits) = is_readiness bits
is_of form reply = false
