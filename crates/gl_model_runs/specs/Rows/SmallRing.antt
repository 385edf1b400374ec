-- A full ring drops its oldest event, and the numbers of the events tell of the gap.
use Rattle.std.specs.Prelude.{ℕ, List, [], ◌∷◌, ◌++◌, true, false}
use Rattle.gl_base.specs.declared.errno.Errno.TheVariants.{Again, Inval}
use Rattle.gl_uapi.specs.declared.commands.Command.TheVariants.{GetLine}
use Rattle.gl_model.specs.declared.call.Call.TheVariants.{ReadEdges}
use Rattle.gl_model.specs.declared.reply.Reply.TheVariants.{Done, Refused}
use Rattle.gl_model_runs.specs.Rows.Structures.{ask_and_tell, by, config, event, four_lines, four_lines_given, gives, opened, pull, request}
use Rattle.gl_model_runs.specs.Run.{Answer, Made, says}

-- both edges of line 0, with room for two events
abbrev pub asked : ℕ → List ℕ
asked fd = request [] (config 0x34 []) 1 2 fd

-- five edges, three reads
unfoldable pub run : List Made
run =
    four_lines
    ++ ask_and_tell 3 GetLine (asked 0)
    ++ pull 0 true
    ∷ pull 0 false
    ∷ pull 0 true
    ∷ pull 0 false
    ∷ pull 0 true
    ∷ by 0 (ReadEdges 0 4 96)
    ∷ by 0 (ReadEdges 0 4 96)
    ∷ by 0 (ReadEdges 0 4 47)
    ∷ []

unfoldable pub given : List Answer
given =
    four_lines_given
    ++ opened 4 asked
    ++ says Done
    ∷ says Done
    ∷ says Done
    ∷ says Done
    ∷ says Done
    ∷ gives 96 (event 0 2 0 4 4 ++ event 0 1 0 5 5)
    ∷ says (Refused Again)
    ∷ says (Refused Inval)
    ∷ []
