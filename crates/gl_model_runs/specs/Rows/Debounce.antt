-- A debounced line is an event once its level has stayed for its period, at the deadline; a level that came back is none.
use Rattle.std.specs.Prelude.{ℕ, List, [], ◌∷◌, ◌++◌, true, false}
use Rattle.gl_base.specs.declared.errno.Errno.TheVariants.{Again, Inval}
use Rattle.gl_uapi.specs.declared.commands.Command.TheVariants.{GetLine}
use Rattle.gl_model.specs.declared.call.Call.TheVariants.{ReadEdges, Tick}
use Rattle.gl_model.specs.declared.reply.Reply.TheVariants.{Done, Refused}
use Rattle.gl_model_runs.specs.Rows.Structures.{ask_and_tell, attribute, by, config, event, four_lines, four_lines_given, gives, opened, pull, request}
use Rattle.gl_model_runs.specs.Run.{Answer, Made, says}

-- both edges of line 0, which is debounced with 1000 microseconds
abbrev pub asked : ℕ → List ℕ
asked fd = request [] (config 0x34 (attribute 3 1000 0x1 ∷ [])) 1 0 fd

-- the level rises and falls within the period; it rises and stays; the clock goes back
unfoldable pub run : List Made
run =
    four_lines
    ++ ask_and_tell 3 GetLine (asked 0)
    ++ pull 0 true
    ∷ by 0 (Tick 500_000 0)
    ∷ pull 0 false
    ∷ by 0 (Tick 2_000_000 0)
    ∷ by 0 (ReadEdges 0 4 48)
    ∷ by 0 (Tick 3_000_000 0)
    ∷ pull 0 true
    ∷ by 0 (Tick 5_000_000 0)
    ∷ by 0 (ReadEdges 0 4 48)
    ∷ by 0 (Tick 4_000_000 0)
    ∷ []

unfoldable pub given : List Answer
given =
    four_lines_given
    ++ opened 4 asked
    ++ says Done
    ∷ says Done
    ∷ says Done
    ∷ says Done
    ∷ says (Refused Again)
    ∷ says Done
    ∷ says Done
    ∷ says Done
    ∷ gives 48 (event 4_000_000 1 0 1 1)
    ∷ says (Refused Inval)
    ∷ []
