-- What the driver is asked for a command on an open file, and for an operation of a client, where it is asked.
use Rattle.std.specs.Prelude.{ℕ, Bool, true, false, List, take, Option, Some, None}
use Rattle.gl_attrs.specs.Setting.{resolved_for}
use Rattle.gl_base.specs.declared.errno.Errno.{Errno}
use Rattle.gl_base.specs.declared.lines.Lines.{Lines}
use Rattle.gl_base.specs.declared.op.Op.{Op}
use Rattle.gl_base.specs.declared.op.Op.TheVariants.{Get, Set, Apply}
use Rattle.gl_base.specs.declared.operation.Do.{Do}
use Rattle.gl_base.specs.declared.operation.Do.TheVariants.{Ioctl as DoIoctl}
use Rattle.gl_uapi.specs.Command.{command_of, size_of}
use Rattle.gl_uapi.specs.declared.commands.Command.{Command}
use Rattle.gl_uapi.specs.declared.commands.Command.TheVariants.{GetLine, SetConfig, GetValues, SetValues}
use Rattle.gl_model.specs.AskedLines.{asked_in, lines_asked, request_fault}
use Rattle.gl_model.specs.Values.{bits_in, mask_in}
use Rattle.gl_model.specs.declared.device_call.CommandIn.{CommandIn}
use Rattle.gl_asking.specs.Asking.{buffer_of, lines_named}
use Rattle.gl_asking.specs.Files.{OpenFile, file_in}
use Rattle.gl_asking.specs.Handed.{command_in}

-- what the driver is asked for a request with these bytes, by what is wrong with the bytes alone: nothing where something is
abbrev pub op_requested : Option Errno → List ℕ → Option Op
op_requested None bytes = Some (Apply (lines_asked bytes) (asked_in bytes).settings)
op_requested (Some errno) bytes = None

-- What the driver is asked for a command with this structure, on a request with these lines: SET_CONFIG applies the settings that
-- the structure gives to each of them, GET_VALUES gets them, SET_VALUES sets those of the mask to the bits. GET_LINE applies, to the lines
-- that its structure names, the settings that it gives to each. For no other command it is asked.
abbrev pub op_of : Lines → Option Command → List ℕ → Option Op
op_of lines None bytes = None
op_of lines (Some GetLine) bytes = op_requested (request_fault (take (size_of GetLine) bytes)) (take (size_of GetLine) bytes)
op_of lines (Some SetConfig) bytes = Some (Apply lines (resolved_for (take (size_of SetConfig) bytes) lines.count))
op_of lines (Some GetValues) bytes = Some (Get lines)
op_of lines (Some SetValues) bytes = Some (Set lines (mask_in (take (size_of SetValues) bytes)) (bits_in (take (size_of SetValues) bytes)))
op_of lines (Some command) bytes = None

-- a command for which the driver configures lines
abbrev pub applies : Option Command → Bool
applies (Some GetLine) = true
applies (Some SetConfig) = true
applies _ = false

-- what the driver is asked for a command on a file of these lines, where it is asked
abbrev pub op_for : Lines → CommandIn → Option Op
op_for lines c = op_of lines (command_of c.cmd) c.bytes

-- the lines that a command is on: on a chip those that its structure names, on a request the request's
abbrev pub lines_by : Bool → Lines → List ℕ → Lines
lines_by true lines buffer = lines_named buffer
lines_by false lines buffer = lines

-- what the driver is asked for a command with this buffer on a file, where it is asked
abbrev pub op_on : Option OpenFile → ℕ → List ℕ → Option Op
op_on None cmd buffer = None
op_on (Some file) cmd buffer = op_for (lines_by file.of_chip file.lines buffer) (command_in file.place file.fd file.of_chip cmd buffer)

-- the same for an operation
abbrev pub op_asked : List OpenFile → Do → Option Op
op_asked files (DoIoctl slot cmd len bytes made) = op_on (file_in slot files) cmd (buffer_of len bytes)
op_asked files _ = None
