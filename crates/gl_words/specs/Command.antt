-- What clap is told to read: one option, `--generate`, that takes a value.
use Rattle.std.specs.Prelude.{true, codes, Some}
use Rattle.clap.specs.Words.{App, Rule, new_app, new_rule, with_rule}
use Rattle.clap.specs.Simple.{on_top}

abbrev pub generate_option : Rule
generate_option = record (new_rule (codes "generate")) { long = Some (codes "generate") }

-- no program's name stands in front of the words
abbrev pub unnamed : App → App
unnamed command = on_top (λ shape. record shape { no_binary_name = true }) command

-- the command that reads the words of a load
abbrev pub load_command : App
load_command = with_rule (unnamed (new_app (codes "gpiosess"))) generate_option
