-- The edges of an active-low line are those of its logical value.
use Rattle.std.specs.Prelude.{ℕ, List, [], ◌∷◌, ◌++◌, true, false}
use Rattle.gl_uapi.specs.declared.commands.Command.TheVariants.{GetLine}
use Rattle.gl_model.specs.declared.call.Call.TheVariants.{ReadEdges}
use Rattle.gl_model.specs.declared.reply.Reply.TheVariants.{Done}
use Rattle.gl_model_runs.specs.Rows.Structures.{ask_and_tell, by, config, event, four_lines, four_lines_given, gives, opened, pull, request}
use Rattle.gl_model_runs.specs.Run.{Answer, Made, says}

-- the rising edges of line 0, which is active low
abbrev pub asked : ℕ → List ℕ
asked fd = request [] (config 0x16 []) 1 0 fd

-- the level rises, and falls
unfoldable pub run : List Made
run =
    four_lines
    ++ ask_and_tell 3 GetLine (asked 0)
    ++ pull 0 true
    ∷ pull 0 false
    ∷ by 0 (ReadEdges 0 4 480)
    ∷ []

unfoldable pub given : List Answer
given =
    four_lines_given
    ++ opened 4 asked
    ++ says Done
    ∷ says Done
    ∷ gives 48 (event 0 1 0 1 1)
    ∷ []
