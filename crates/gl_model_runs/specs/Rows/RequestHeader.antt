-- The head of a request, case by case; a refused request takes no file's number.
use Rattle.std.specs.Prelude.{List, [], ◌∷◌, ◌++◌}
use Rattle.gl_base.specs.declared.errno.Errno.TheVariants.{Busy, Inval}
use Rattle.gl_uapi.specs.Fields.{number_bytes, zeros}
use Rattle.gl_uapi.specs.declared.commands.Command.TheVariants.{GetLine}
use Rattle.gl_model.specs.declared.call.Part.TheVariants.{Ask}
use Rattle.gl_model.specs.declared.reply.Reply.TheVariants.{Go, Refused}
use Rattle.gl_model_runs.specs.Rows.Structures.{ask_and_tell, command, four_lines, four_lines_given, gives}
use Rattle.gl_model_runs.specs.Run.{Answer, Made, says}

-- no line; 65 lines; 64 times line 0; 11 attributes; padding that isn't zero; a number of a file, which is passed over
unfoldable pub run : List Made
run =
    four_lines
    ++ command 3 GetLine (zeros 592) Ask
    ∷ command 3 GetLine (zeros 560 ++ number_bytes 4 65 ++ zeros 28) Ask
    ∷ command 3 GetLine (zeros 560 ++ number_bytes 4 64 ++ zeros 28) Ask
    ∷ command 3 GetLine (zeros 296 ++ number_bytes 4 11 ++ zeros 260 ++ number_bytes 4 1 ++ zeros 28) Ask
    ∷ command 3 GetLine (zeros 560 ++ number_bytes 4 1 ++ zeros 4 ++ number_bytes 1 1 ++ zeros 23) Ask
    ∷ ask_and_tell 3 GetLine (zeros 560 ++ number_bytes 4 1 ++ zeros 24 ++ number_bytes 4 0xFFFF_FFFF)

unfoldable pub given : List Answer
given =
    four_lines_given
    ++ says (Refused Inval)
    ∷ says (Refused Inval)
    ∷ says (Refused Busy)
    ∷ says (Refused Inval)
    ∷ says (Refused Inval)
    ∷ says (Go 4)
    ∷ gives 4 (zeros 560 ++ number_bytes 4 1 ++ zeros 24 ++ number_bytes 4 4)
    ∷ []
