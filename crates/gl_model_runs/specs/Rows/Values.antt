-- Values are set on outputs alone, and read of all lines that the mask has.
use Rattle.std.specs.Prelude.{ℕ, List, [], ◌∷◌, ◌++◌, false}
use Rattle.gl_base.specs.declared.errno.Errno.TheVariants.{Inval, Perm}
use Rattle.gl_uapi.specs.declared.commands.Command.TheVariants.{GetLine, GetValues, SetValues}
use Rattle.gl_model.specs.declared.call.Call.TheVariants.{Level}
use Rattle.gl_model.specs.declared.call.Part.TheVariants.{Ask}
use Rattle.gl_model.specs.declared.reply.Reply.TheVariants.{Done, Go, Number, Refused}
use Rattle.gl_model_runs.specs.Rows.Structures.{ask_and_tell, attribute, by, command, config, four_lines, four_lines_given, opened, request, values}
use Rattle.gl_model_runs.specs.Run.{Answer, Made, says, shows}

-- line 0 as an output, line 1 as an input
abbrev pub asked : ℕ → List ℕ
asked fd = request (0 ∷ 1 ∷ []) (config 0x4 (attribute 1 0x8 0x1 ∷ [])) 2 0 fd

-- both lines are set; a line that isn't there is set; no line is read; line 0 is set; both are read
unfoldable pub run : List Made
run =
    four_lines
    ++ ask_and_tell 3 GetLine (asked 0)
    ++ command 4 SetValues (values 0x3 0x3) Ask
    ∷ by 0 (Level 0 0 false)
    ∷ command 4 SetValues (values 0x4 0x4) Ask
    ∷ command 4 GetValues (values 0x0 0x0) Ask
    ∷ ask_and_tell 4 SetValues (values 0x1 0x1)
    ++ ask_and_tell 4 GetValues (values 0x0 0x3)

unfoldable pub given : List Answer
given =
    four_lines_given
    ++ opened 4 asked
    ++ says (Refused Perm)
    ∷ says (Number 0)
    ∷ says (Refused Inval)
    ∷ says (Refused Inval)
    ∷ says (Go 0)
    ∷ says Done
    ∷ says (Go 0)
    ∷ shows (values 0x1 0x3)
    ∷ []
