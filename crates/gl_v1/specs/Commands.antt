-- The commands of the first uAPI, by the numbers that `linux/gpio.h` gives them, and the files that have them.
use Rattle.std.specs.Prelude.{ℕ, ◌==◌, List, [], ◌∷◌, Option, find}
use Rattle.gl_base.specs.declared.command.TheConstants.{GET_CHIPINFO, GET_LINEINFO, GET_LINE, LINE_SET_CONFIG, LINE_GET_VALUES, LINE_SET_VALUES}
use Rattle.gl_v1.specs.declared.commands.TheConstants.{LINE_INFO, LINE_HANDLE, LINE_EVENT, HANDLE_GET_VALUES, HANDLE_SET_VALUES, HANDLE_SET_CONFIG}
use Rattle.gl_v1.specs.declared.commands.CommandV1.{CommandV1}
use Rattle.gl_v1.specs.declared.commands.CommandV1.TheVariants.{ChipInfo, LineInfo, LineHandle, LineEvent, GetValues, SetValues, SetConfig}
use Rattle.gl_v1.specs.declared.commands.KindV1.{KindV1}
use Rattle.gl_v1.specs.declared.commands.KindV1.TheVariants.{Chip, Handle, Event}
use Rattle.gl_v1.specs.declared.layout.TheConstants.{V1_CHIP_INFO_SIZE, V1_LINE_INFO_SIZE, V1_HANDLE_REQUEST_SIZE, V1_EVENT_REQUEST_SIZE, V1_HANDLE_DATA_SIZE, V1_HANDLE_CONFIG_SIZE}

-- the number of a command
abbrev pub number_of : CommandV1 → ℕ
number_of ChipInfo = GET_CHIPINFO
number_of LineInfo = LINE_INFO
number_of LineHandle = LINE_HANDLE
number_of LineEvent = LINE_EVENT
number_of GetValues = HANDLE_GET_VALUES
number_of SetValues = HANDLE_SET_VALUES
number_of SetConfig = HANDLE_SET_CONFIG

-- the command of a list that has this number
abbrev pub numbered : ℕ → List CommandV1 → Option CommandV1
numbered number commands = find (λ command. number_of command == number) commands

-- those of a chip's file
abbrev pub chip_commands : List CommandV1
chip_commands = ChipInfo ∷ LineInfo ∷ LineHandle ∷ LineEvent ∷ []

-- those of a handle
abbrev pub handle_commands : List CommandV1
handle_commands = GetValues ∷ SetValues ∷ SetConfig ∷ []

-- those of a line whose edges are events
abbrev pub event_commands : List CommandV1
event_commands = GetValues ∷ []

-- those of a kind of file
abbrev pub commands_of : KindV1 → List CommandV1
commands_of Chip = chip_commands
commands_of (Handle lines) = handle_commands
commands_of Event = event_commands

-- the command that has this number on a file of this kind
abbrev pub command_for : KindV1 → ℕ → Option CommandV1
command_for kind number = numbered number (commands_of kind)

-- the length of a command's structure
abbrev pub size_of : CommandV1 → ℕ
size_of ChipInfo = V1_CHIP_INFO_SIZE
size_of LineInfo = V1_LINE_INFO_SIZE
size_of LineHandle = V1_HANDLE_REQUEST_SIZE
size_of LineEvent = V1_EVENT_REQUEST_SIZE
size_of GetValues = V1_HANDLE_DATA_SIZE
size_of SetValues = V1_HANDLE_DATA_SIZE
size_of SetConfig = V1_HANDLE_CONFIG_SIZE

-- the number of the command of v2 that it becomes
abbrev pub sent_as : CommandV1 → ℕ
sent_as ChipInfo = GET_CHIPINFO
sent_as LineInfo = GET_LINEINFO
sent_as LineHandle = GET_LINE
sent_as LineEvent = GET_LINE
sent_as GetValues = LINE_GET_VALUES
sent_as SetValues = LINE_SET_VALUES
sent_as SetConfig = LINE_SET_CONFIG

-- how many lines a file of this kind has
abbrev pub lines_of : KindV1 → ℕ
lines_of Chip = 0
lines_of (Handle lines) = lines
lines_of Event = 1
