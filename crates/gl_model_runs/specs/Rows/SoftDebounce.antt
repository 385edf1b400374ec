-- The information on a debounced line has its period as an attribute, and its event comes at the deadline.
use Rattle.std.specs.Prelude.{ℕ, List, [], ◌∷◌, ◌++◌, codes, true}
use Rattle.gl_base.specs.declared.errno.Errno.TheVariants.{Again}
use Rattle.gl_uapi.specs.Fields.{number_bytes, zeros}
use Rattle.gl_uapi.specs.declared.commands.Command.TheVariants.{LineInfo, GetLine}
use Rattle.gl_model.specs.declared.call.Call.TheVariants.{ReadEdges, Tick}
use Rattle.gl_model.specs.declared.call.Part.TheVariants.{Whole}
use Rattle.gl_model.specs.declared.reply.Reply.TheVariants.{Done, Refused}
use Rattle.gl_model_runs.specs.Rows.Structures.{ask_and_tell, attribute, by, command, config, event, four_lines, four_lines_given, gives, info, opened, pull, request}
use Rattle.gl_model_runs.specs.Run.{Answer, Made, says, shows}

-- both edges of line 0, which is debounced with 1000 microseconds
abbrev pub asked : ℕ → List ℕ
asked fd = request [] (config 0x34 (attribute 3 1000 0x1 ∷ [])) 1 0 fd

unfoldable pub run : List Made
run =
    four_lines
    ++ ask_and_tell 3 GetLine (asked 0)
    ++ pull 0 true
    ∷ by 0 (ReadEdges 0 4 48)
    ∷ command 3 LineInfo (info [] 0 0) Whole
    ∷ by 0 (Tick 9_000_000 0)
    ∷ by 0 (ReadEdges 0 4 48)
    ∷ []

-- used, an input with both edges; one attribute, which is the period
unfoldable pub given : List Answer
given =
    four_lines_given
    ++ opened 4 asked
    ++ says Done
    ∷ says (Refused Again)
    ∷ shows (zeros 32 ++ codes "?" ++ zeros 35 ++ number_bytes 4 1 ++ number_bytes 8 0x35 ++ attribute 3 1000 0 ++ zeros 152)
    ∷ says Done
    ∷ gives 48 (event 1_000_000 1 0 1 1)
    ∷ []
