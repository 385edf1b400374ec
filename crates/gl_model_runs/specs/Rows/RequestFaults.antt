-- The first faulty line of a request decides, and a refused request leaves all lines as they were.
use Rattle.std.specs.Prelude.{List, [], ◌∷◌, ◌++◌}
use Rattle.gl_base.specs.declared.errno.Errno.TheVariants.{BadF, Busy, Inval}
use Rattle.gl_uapi.specs.declared.commands.Command.TheVariants.{LineInfo, GetLine}
use Rattle.gl_model.specs.declared.call.Call.TheVariants.{PollLine}
use Rattle.gl_model.specs.declared.call.Part.TheVariants.{Whole, Ask}
use Rattle.gl_model.specs.declared.reply.Reply.TheVariants.{Refused}
use Rattle.gl_model_runs.specs.Rows.Structures.{by, command, config, four_lines, four_lines_given, info, request}
use Rattle.gl_model_runs.specs.Run.{Answer, Made, says, shows}

-- line 3 twice; line 3 and line 9, which the chip doesn't have; a poll of a request that isn't there; the information on line 3
unfoldable pub run : List Made
run =
    four_lines
    ++ command 3 GetLine (request (3 ∷ 3 ∷ []) (config 0 []) 2 0 0) Ask
    ∷ command 3 GetLine (request (3 ∷ 9 ∷ []) (config 0 []) 2 0 0) Ask
    ∷ by 0 (PollLine 0 4)
    ∷ command 3 LineInfo (info [] 3 0) Whole
    ∷ []

-- line 3 is free, and an input
unfoldable pub given : List Answer
given =
    four_lines_given
    ++ says (Refused Busy)
    ∷ says (Refused Inval)
    ∷ says (Refused BadF)
    ∷ shows (info [] 3 0x4)
    ∷ []
