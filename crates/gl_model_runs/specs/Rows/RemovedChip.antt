-- The open files of a chip that was removed answer ENODEV and are closed as ever; its word names no chip any more.
use Rattle.std.specs.Prelude.{ℕ, List, [], ◌∷◌, ◌++◌, codes, true, false}
use Rattle.gl_base.specs.declared.errno.Errno.TheVariants.{NoDev, NoEnt}
use Rattle.gl_base.specs.declared.kind.Kind.TheVariants.{Simulated}
use Rattle.gl_uapi.specs.declared.commands.Command.TheVariants.{GetLine}
use Rattle.gl_model.specs.declared.call.Call.TheVariants.{Close, OpenChip, Probe, Refused as RefusedCall, Unplug}
use Rattle.gl_model.specs.declared.reply.Reply.TheVariants.{Done, Number, Ready, Refused}
use Rattle.gl_model_runs.specs.Rows.Structures.{ask_and_tell, by, config, four_lines, four_lines_given, opened, pull, request}
use Rattle.gl_model_runs.specs.Run.{Answer, Made, says, shows}

-- both edges of line 0
abbrev pub asked : ℕ → List ℕ
asked fd = request [] (config 0x34 []) 1 0 fd

-- A request, and an edge of it; the chip is removed. Behind that its guard is closed: a read, a command and a poll are
-- refused there. The request is closed, the chip opened and removed again, and another chip made.
unfoldable pub run : List Made
run =
    four_lines
    ++ ask_and_tell 3 GetLine (asked 0)
    ++ pull 0 true
    ∷ by 0 (Unplug 0 false)
    ∷ by 0 (OpenChip (codes "gpiochip0"))
    ∷ by 0 (Unplug 0 true)
    ∷ by 0 (RefusedCall 0 false)
    ∷ by 0 (RefusedCall 0 false)
    ∷ by 0 (RefusedCall 0 true)
    ∷ by 0 (Close 4)
    ∷ by 0 (OpenChip (codes "gpiochip0"))
    ∷ by 0 (Unplug 0 false)
    ∷ by 0 (Probe (codes "demo") 4 Simulated)
    ∷ []

-- the first entry of a removal writes its first place and how many places it has
unfoldable pub given : List Answer
given =
    four_lines_given
    ++ opened 4 asked
    ++ says Done
    ∷ shows (0 ∷ 1 ∷ [])
    ∷ says (Refused NoDev)
    ∷ says Done
    ∷ says (Refused NoDev)
    ∷ says (Refused NoDev)
    ∷ says (Ready 6)
    ∷ says Done
    ∷ says (Refused NoEnt)
    ∷ says (Refused NoDev)
    ∷ says (Number 1)
    ∷ []
