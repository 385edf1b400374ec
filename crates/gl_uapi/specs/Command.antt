-- The commands of uAPI v2, by the numbers that `linux/gpio.h` gives them.
use Rattle.std.specs.Prelude.{ℕ, ◌==◌, List, [], ◌∷◌, Option, find}
use Rattle.gl_uapi.specs.declared.commands.Command.{Command}
use Rattle.gl_uapi.specs.declared.commands.Command.TheVariants.{ChipInfo, LineInfo, Watch, Unwatch, GetLine, SetConfig, GetValues, SetValues}
use Rattle.gl_base.specs.declared.command.TheConstants.{GET_CHIPINFO, GET_LINEINFO, GET_LINEINFO_WATCH, GET_LINE, GET_LINEINFO_UNWATCH, LINE_SET_CONFIG, LINE_GET_VALUES, LINE_SET_VALUES}
use Rattle.gl_uapi.specs.declared.layout.TheConstants.{CHIP_INFO_SIZE, LINE_INFO_SIZE, UNWATCH_SIZE, LINE_REQUEST_SIZE, LINE_CONFIG_SIZE, LINE_VALUES_SIZE}

-- the number of a command
abbrev pub number_of : Command → ℕ
number_of ChipInfo = GET_CHIPINFO
number_of LineInfo = GET_LINEINFO
number_of Watch = GET_LINEINFO_WATCH
number_of Unwatch = GET_LINEINFO_UNWATCH
number_of GetLine = GET_LINE
number_of SetConfig = LINE_SET_CONFIG
number_of GetValues = LINE_GET_VALUES
number_of SetValues = LINE_SET_VALUES

-- all of them
abbrev pub commands : List Command
commands = ChipInfo ∷ LineInfo ∷ Watch ∷ Unwatch ∷ GetLine ∷ SetConfig ∷ GetValues ∷ SetValues ∷ []

-- the command that has this number
abbrev pub command_of : ℕ → Option Command
command_of number = find (λ command. number_of command == number) commands

-- the length of a command's structure
abbrev pub size_of : Command → ℕ
size_of ChipInfo = CHIP_INFO_SIZE
size_of LineInfo = LINE_INFO_SIZE
size_of Watch = LINE_INFO_SIZE
size_of Unwatch = UNWATCH_SIZE
size_of GetLine = LINE_REQUEST_SIZE
size_of SetConfig = LINE_CONFIG_SIZE
size_of GetValues = LINE_VALUES_SIZE
size_of SetValues = LINE_VALUES_SIZE
