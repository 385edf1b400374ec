-- The words of a session that stand for commands. The numbers are those of `linux/gpio.h`; the words are this project's choice.
use Rattle.std.specs.Prelude.{ℕ, ◌+◌, ◌*◌, ◌%◌, ◌^◌, Bool, ◌==◌, ◌&&◌, if◌then◌else◌, List, [], ◌∷◌, length, drop, nat_eq, Option, Some, None, codes}
use Rattle.std.specs.List.{list_all, starts_with}
use Rattle.std.specs.Char.{is_ascii_hexdigit}
use Rattle.std.specs.Str.{bytes_eq}
use Rattle.gl_base.specs.BytesText.{digit_value}
use Rattle.gl_base.specs.declared.command.TheConstants.{GET_CHIPINFO, GET_LINEINFO, GET_LINEINFO_WATCH, GET_LINE, GET_LINEINFO_UNWATCH, LINE_SET_CONFIG, LINE_GET_VALUES, LINE_SET_VALUES}

-- a command's word and number
pub record NamedCommand : Type 0 where
  pub word : List ℕ
  pub number : ℕ

abbrev pub named : List ℕ → ℕ → NamedCommand
named word number = record { word = word; number = number }

-- all of them
abbrev pub named_commands : List NamedCommand
named_commands =
    named (codes "GET_CHIPINFO") GET_CHIPINFO
    ∷ named (codes "GET_LINEINFO") GET_LINEINFO
    ∷ named (codes "WATCH") GET_LINEINFO_WATCH
    ∷ named (codes "GET_LINE") GET_LINE
    ∷ named (codes "UNWATCH") GET_LINEINFO_UNWATCH
    ∷ named (codes "SET_CONFIG") LINE_SET_CONFIG
    ∷ named (codes "GET_VALUES") LINE_GET_VALUES
    ∷ named (codes "SET_VALUES") LINE_SET_VALUES
    ∷ []

-- the number of the command that has a word
abbrev pub number_named : List ℕ → List NamedCommand → Option ℕ
number_named word [] = None
number_named word (command ∷ commands) = if bytes_eq word command.word then Some command.number else number_named word commands

-- the number that hexadecimal digits write behind those of n, in 32 bits
abbrev pub hex_after : ℕ → List ℕ → ℕ
hex_after n [] = n
hex_after n (digit ∷ digits) = hex_after ((16 * n + digit_value digit) % 2 ^ 32) digits

-- `0x` and eight hexadecimal digits in either case
abbrev pub is_command_number : List ℕ → Bool
is_command_number word = (length word == 10) && (starts_with nat_eq word (codes "0x") && list_all is_ascii_hexdigit (drop 2 word))

-- the number of the command that a word of a session stands for, if it stands for one
abbrev pub command_number_of : List ℕ → Option ℕ
command_number_of word =
    if is_command_number word then Some (hex_after 0 (drop 2 word)) else number_named word named_commands
