-- The words of a session that stand for commands of the first uAPI. The numbers are those of `linux/gpio.h`; the words are
-- this project's choice.
use Rattle.std.specs.Prelude.{ℕ, Bool, true, false, nat_eq, if◌then◌else◌, List, [], ◌∷◌, Option, Some, None, codes}
use Rattle.std.specs.List.{starts_with}
use Rattle.std.specs.Str.{bytes_eq}
use Rattle.gl_base.specs.CommandWord.{NamedCommand, command_number_of, named}
use Rattle.gl_base.specs.declared.command.TheConstants.{GET_CHIPINFO}
use Rattle.gl_v1.specs.declared.commands.CommandV1.{CommandV1}
use Rattle.gl_v1.specs.declared.commands.CommandV1.TheVariants.{LineHandle, LineEvent}
use Rattle.gl_v1.specs.declared.commands.KindV1.TheVariants.{Chip}
use Rattle.gl_v1.specs.declared.commands.TheConstants.{LINE_INFO, LINE_HANDLE, LINE_EVENT, HANDLE_GET_VALUES, HANDLE_SET_VALUES, HANDLE_SET_CONFIG}
use Rattle.gl_v1.specs.Commands.{command_for}

-- all of them
abbrev pub old_commands : List NamedCommand
old_commands =
    named (codes "CHIPINFO") GET_CHIPINFO
    ∷ named (codes "LINEINFO") LINE_INFO
    ∷ named (codes "LINEHANDLE") LINE_HANDLE
    ∷ named (codes "LINEEVENT") LINE_EVENT
    ∷ named (codes "GET_VALUES") HANDLE_GET_VALUES
    ∷ named (codes "SET_VALUES") HANDLE_SET_VALUES
    ∷ named (codes "SET_CONFIG") HANDLE_SET_CONFIG
    ∷ []

-- `0x` and eight hexadecimal digits in either case are a number here as in v2, no word of which begins so
abbrev pub hex_number_of : List ℕ → Option ℕ
hex_number_of word = if starts_with nat_eq word (codes "0x") then command_number_of word else None

-- the number of the command that has a word; another number where none has it
abbrev pub number_or : Option ℕ → List ℕ → List NamedCommand → Option ℕ
number_or other word [] = other
number_or other word (command ∷ commands) = if bytes_eq word command.word then Some command.number else number_or other word commands

-- the number of the command that a word of a session stands for, if it stands for one
abbrev pub old_number_of : List ℕ → Option ℕ
old_number_of word = number_or (hex_number_of word) word old_commands

-- a handle and a request for edges make a file
abbrev pub makes : Option CommandV1 → Bool
makes (Some LineHandle) = true
makes (Some LineEvent) = true
makes _ = false

-- the command of that number makes one
abbrev pub makes_file : Option ℕ → Bool
makes_file None = false
makes_file (Some number) = makes (command_for Chip number)
