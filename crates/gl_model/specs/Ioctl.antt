-- The commands on open files, by their numbers in `linux/gpio.h`.
use Rattle.std.specs.Prelude.{ℕ, List, take, Option, Some, None}
use Rattle.gl_uapi.specs.Command.{command_of, size_of}
use Rattle.gl_uapi.specs.declared.commands.Command.{Command}
use Rattle.gl_uapi.specs.declared.commands.Command.TheVariants.{ChipInfo, LineInfo, Watch, Unwatch, GetLine, SetConfig, GetValues, SetValues}
use Rattle.gl_model.specs.declared.call.Part.{Part}
use Rattle.gl_model.specs.declared.call.Part.TheVariants.{Whole, Ask, Tell}
use Rattle.gl_model.specs.Claiming.{get_line_ask, get_line_tell}
use Rattle.gl_model.specs.Commands.{get_chip_info, get_line_info, unwatch_line, watch_line}
use Rattle.gl_model.specs.Configuring.{set_config}
use Rattle.gl_model.specs.OpenFiles.{command_refusal, on_request, unknown_refusal}
use Rattle.gl_model.specs.Outcome.{Outcome, refused, refused_or}
use Rattle.gl_model.specs.Values.{get_values, set_values}
use Rattle.gl_model.specs.World.{World, request_at}

-- what a command does once its file, its buffer's length and its part are right; `bytes` are its structure
abbrev pub act_on : ℕ → ℕ → ℕ → Command → List ℕ → Part → World → Outcome
act_on actor place fd ChipInfo bytes part w = get_chip_info place w
act_on actor place fd LineInfo bytes part w = get_line_info place bytes w
act_on actor place fd Watch bytes part w = watch_line place fd bytes w
act_on actor place fd Unwatch bytes part w = unwatch_line place fd bytes w
act_on actor place fd GetLine bytes part w = get_line_ask place actor bytes w
act_on actor place fd SetConfig bytes part w = on_request (set_config place fd bytes part) (request_at w.requests fd) w
act_on actor place fd GetValues bytes part w = on_request (get_values place bytes part) (request_at w.requests fd) w
act_on actor place fd SetValues bytes part w = on_request (set_values place bytes part) (request_at w.requests fd) w

-- a command, after the refusals with which every command begins
abbrev pub checked : ℕ → ℕ → ℕ → ℕ → Command → List ℕ → Part → World → Outcome
checked actor place fd len command bytes part w =
    refused_or (command_refusal place fd len command part w) w (act_on actor place fd command (take (size_of command) bytes) part w)

-- a command in one of its parts; the claim alone decides the tell of GET_LINE
abbrev pub in_part : ℕ → ℕ → ℕ → ℕ → Command → List ℕ → Part → World → Outcome
in_part actor place fd len ChipInfo bytes part w = checked actor place fd len ChipInfo bytes part w
in_part actor place fd len LineInfo bytes part w = checked actor place fd len LineInfo bytes part w
in_part actor place fd len Watch bytes part w = checked actor place fd len Watch bytes part w
in_part actor place fd len Unwatch bytes part w = checked actor place fd len Unwatch bytes part w
in_part actor place fd len GetLine bytes Whole w = checked actor place fd len GetLine bytes Whole w
in_part actor place fd len GetLine bytes Ask w = checked actor place fd len GetLine bytes Ask w
in_part actor place fd len GetLine bytes (Tell answer) w = get_line_tell place actor answer len bytes w
in_part actor place fd len SetConfig bytes part w = checked actor place fd len SetConfig bytes part w
in_part actor place fd len GetValues bytes part w = checked actor place fd len GetValues bytes part w
in_part actor place fd len SetValues bytes part w = checked actor place fd len SetValues bytes part w

-- the command of a number, if it is one
abbrev pub by_number : ℕ → ℕ → ℕ → ℕ → Option Command → List ℕ → Part → World → Outcome
by_number actor place fd len None bytes part w = refused (unknown_refusal place fd w) w
by_number actor place fd len (Some command) bytes part w = in_part actor place fd len command bytes part w

-- a call of a command on the file of a number, into a buffer of `len` bytes that begins with these
abbrev pub ioctl : ℕ → ℕ → ℕ → ℕ → ℕ → List ℕ → Part → World → Outcome
ioctl actor place fd cmd len bytes part w = by_number actor place fd len (command_of cmd) bytes part w
