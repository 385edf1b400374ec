-- The commands by the file that they are for, and the parts of those that ask the driver.
use Rattle.gl_model.specs.declared.call.Part.{Part}
use Rattle.gl_model.specs.declared.call.Part.TheVariants.{Ask, Tell}
use Rattle.gl_uapi.specs.declared.commands.Command.{Command}
use Rattle.gl_uapi.specs.declared.commands.Command.TheVariants.{ChipInfo, LineInfo, Watch, Unwatch, GetLine, SetConfig, GetValues, SetValues}
use Rattle.gl_core.specs.declared.commanded.ChipCommand.{ChipCommand}
use Rattle.gl_core.specs.declared.commanded.ChipCommand.TheVariants.{ChipInfo as ChipInfoOn, LineInfo as LineInfoOn, Watch as WatchOn, Unwatch as UnwatchOn}
use Rattle.gl_core.specs.declared.commanded.RequestCommand.{RequestCommand}
use Rattle.gl_core.specs.declared.commanded.RequestCommand.TheVariants.{SetConfig as SetConfigOn, GetValues as GetValuesOn, SetValues as SetValuesOn}
use Rattle.gl_core.specs.declared.commanded.CommandKind.{CommandKind}
use Rattle.gl_core.specs.declared.commanded.CommandKind.TheVariants.{OnChip, OfLines, OnRequest}
use Rattle.gl_core.specs.declared.commanded.DriverPart.{DriverPart}
use Rattle.gl_core.specs.declared.commanded.DriverPart.TheVariants.{Ask as AskOf, Tell as TellOf}

-- the command on a chip file
abbrev pub chip_command : ChipCommand → Command
chip_command ChipInfoOn = ChipInfo
chip_command LineInfoOn = LineInfo
chip_command WatchOn = Watch
chip_command UnwatchOn = Unwatch

-- the command on a request
abbrev pub request_command : RequestCommand → Command
request_command SetConfigOn = SetConfig
request_command GetValuesOn = GetValues
request_command SetValuesOn = SetValues

-- the command of a kind
abbrev pub command_of_kind : CommandKind → Command
command_of_kind (OnChip command) = chip_command command
command_of_kind OfLines = GetLine
command_of_kind (OnRequest command) = request_command command

-- the part of a command that asks the driver
abbrev pub part_of : DriverPart → Part
part_of AskOf = Ask
part_of (TellOf answer) = Tell answer
