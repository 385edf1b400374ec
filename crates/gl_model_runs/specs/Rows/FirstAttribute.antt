-- Of two attributes of flags the first decides: an input that is pulled up, and no output.
use Rattle.std.specs.Prelude.{ℕ, List, [], ◌∷◌, ◌++◌, codes, false}
use Rattle.gl_uapi.specs.declared.commands.Command.TheVariants.{LineInfo, GetLine}
use Rattle.gl_model.specs.declared.call.Call.TheVariants.{Level}
use Rattle.gl_model.specs.declared.call.Part.TheVariants.{Whole}
use Rattle.gl_model.specs.declared.reply.Reply.TheVariants.{Number}
use Rattle.gl_model_runs.specs.Rows.Structures.{ask_and_tell, attribute, by, command, config, four_lines, four_lines_given, info, opened, request}
use Rattle.gl_model_runs.specs.Run.{Answer, Made, says, shows}

-- two attributes of flags for line 0: an input with a pull-up, and an output
abbrev pub asked : ℕ → List ℕ
asked fd = request [] (config 0 (attribute 1 0x104 0x1 ∷ attribute 1 0x8 0x1 ∷ [])) 1 0 fd

unfoldable pub run : List Made
run =
    four_lines
    ++ ask_and_tell 3 GetLine (asked 0)
    ++ command 3 LineInfo (info [] 0 0) Whole
    ∷ by 0 (Level 0 0 false)
    ∷ []

-- used, an input, pulled up; the consumer gave no name
unfoldable pub given : List Answer
given =
    four_lines_given
    ++ opened 4 asked
    ++ shows (info (codes "?") 0 0x105)
    ∷ says (Number 1)
    ∷ []
