-- A request whose driver fails is refused and told to nobody; its number isn't given again, and its line is free.
use Rattle.std.specs.Prelude.{ℕ, List, [], ◌∷◌, ◌++◌, None}
use Rattle.gl_base.specs.declared.errno.Errno.TheVariants.{Again, Io}
use Rattle.gl_uapi.specs.declared.commands.Command.TheVariants.{Watch, GetLine, GetValues}
use Rattle.gl_model.specs.declared.call.Call.TheVariants.{ReadInfo}
use Rattle.gl_model.specs.declared.call.Part.TheVariants.{Whole, Ask, Tell}
use Rattle.gl_model.specs.declared.reply.Reply.TheVariants.{Go, Refused}
use Rattle.gl_model_runs.specs.Rows.Structures.{ask_and_tell, by, command, config, four_lines, four_lines_given, info, opened, request, values}
use Rattle.gl_model_runs.specs.Run.{Answer, Made, says, shows}

-- line 0 as an input
abbrev pub asked : ℕ → List ℕ
asked fd = request [] (config 0x4 []) 1 0 fd

-- line 0 is watched; a request of it whose driver fails; a read of what happened; a request whose driver answers
unfoldable pub run : List Made
run =
    four_lines
    ++ command 3 Watch (info [] 0 0) Whole
    ∷ command 3 GetLine (asked 0) Ask
    ∷ command 3 GetLine (asked 0) (Tell None)
    ∷ by 0 (ReadInfo 0 3 288)
    ∷ ask_and_tell 3 GetLine (asked 0)
    ++ ask_and_tell 5 GetValues (values 0x0 0x1)

unfoldable pub given : List Answer
given =
    four_lines_given
    ++ shows (info [] 0 0x4)
    ∷ says (Go 4)
    ∷ says (Refused Io)
    ∷ says (Refused Again)
    ∷ opened 5 asked
    ++ says (Go 0)
    ∷ shows (values 0x0 0x1)
    ∷ []
