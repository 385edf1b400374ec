-- A line whose pin is held for another function can't be requested until the pin is dropped.
use Rattle.std.specs.Prelude.{ℕ, List, [], ◌∷◌, ◌++◌}
use Rattle.gl_base.specs.declared.errno.Errno.TheVariants.{Busy, Inval}
use Rattle.gl_base.specs.declared.pin.PinDo.TheVariants.{Range, Hold, Release}
use Rattle.gl_uapi.specs.declared.commands.Command.TheVariants.{GetLine, GetValues}
use Rattle.gl_model.specs.declared.call.Call.TheVariants.{Close, Pin}
use Rattle.gl_model.specs.declared.call.Part.TheVariants.{Ask}
use Rattle.gl_model.specs.declared.reply.Reply.TheVariants.{Done, Go, Refused}
use Rattle.gl_model_runs.specs.Rows.Structures.{ask_and_tell, by, command, config, four_lines, four_lines_given, opened, request, values}
use Rattle.gl_model_runs.specs.Run.{Answer, Made, says, shows}

-- line 1 as an input
abbrev pub asked : ℕ → List ℕ
asked fd = request (1 ∷ []) (config 0x4 []) 1 0 fd

-- pins 100 to 103 are lines 0 to 3; a second range overlaps; pin 101 is held, and dropped; no range has pin 104
unfoldable pub run : List Made
run =
    four_lines
    ++ by 0 (Pin 0 (Range 0 100 4))
    ∷ by 0 (Pin 0 (Range 2 200 2))
    ∷ by 0 (Pin 0 (Hold 101))
    ∷ command 3 GetLine (asked 0) Ask
    ∷ by 0 (Pin 0 (Release 101))
    ∷ ask_and_tell 3 GetLine (asked 0)
    ++ ask_and_tell 4 GetValues (values 0x0 0x1)
    ++ by 0 (Close 4)
    ∷ by 0 (Pin 0 (Hold 104))
    ∷ []

unfoldable pub given : List Answer
given =
    four_lines_given
    ++ says Done
    ∷ says (Refused Inval)
    ∷ says Done
    ∷ says (Refused Busy)
    ∷ says Done
    ∷ opened 4 asked
    ++ says (Go 0)
    ∷ shows (values 0x0 0x1)
    ∷ says Done
    ∷ says (Refused Inval)
    ∷ []
