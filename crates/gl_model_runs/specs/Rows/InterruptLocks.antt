-- A line that is locked as an enabled interrupt can't be an output, and an output's interrupt can't be enabled.
use Rattle.std.specs.Prelude.{ℕ, List, [], ◌∷◌, ◌++◌}
use Rattle.gl_base.specs.declared.errno.Errno.TheVariants.{Busy, Io}
use Rattle.gl_base.specs.declared.irq.IrqDo.TheVariants.{Lock, Disable, Enable, Never}
use Rattle.gl_uapi.specs.declared.commands.Command.TheVariants.{GetLine}
use Rattle.gl_model.specs.declared.call.Call.TheVariants.{Irq}
use Rattle.gl_model.specs.declared.call.Part.TheVariants.{Ask}
use Rattle.gl_model.specs.declared.reply.Reply.TheVariants.{Done, Refused}
use Rattle.gl_model_runs.specs.Rows.Structures.{ask_and_tell, by, command, config, four_lines, four_lines_given, opened, request}
use Rattle.gl_model_runs.specs.Run.{Answer, Made, says}

-- line 1 as an output
abbrev pub asked : ℕ → List ℕ
asked fd = request (1 ∷ []) (config 0x8 []) 1 0 fd

unfoldable pub run : List Made
run =
    four_lines
    ++ by 0 (Irq 0 1 Lock)
    ∷ command 3 GetLine (asked 0) Ask
    ∷ by 0 (Irq 0 1 Disable)
    ∷ ask_and_tell 3 GetLine (asked 0)
    ++ by 0 (Irq 0 1 Enable)
    ∷ by 0 (Irq 0 1 Never)
    ∷ []

unfoldable pub given : List Answer
given =
    four_lines_given
    ++ says Done
    ∷ says (Refused Io)
    ∷ says Done
    ∷ opened 4 asked
    ++ says (Refused Io)
    ∷ says (Refused Busy)
    ∷ []
