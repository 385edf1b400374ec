-- A device of the tree goes live, is removed with its chip, and goes live again as another chip.
use Rattle.std.specs.Prelude.{ℕ, List, [], ◌∷◌, ◌++◌, codes, true, false}
use Rattle.gl_base.specs.declared.errno.Errno.TheVariants.{Busy, NoDev, NoEnt, Perm, Exist}
use Rattle.gl_uapi.specs.declared.commands.Command.TheVariants.{GetLine}
use Rattle.gl_model.specs.declared.call.Call.TheVariants.{Close, Live, MakeDir, OpenChip, Read, Refused as RefusedCall, Remove, Write}
use Rattle.gl_model.specs.declared.reply.Reply.TheVariants.{Done, Number, Ready, Refused, Text}
use Rattle.gl_model_runs.specs.Rows.Structures.{ask_and_tell, by, config, opened, pull, request}
use Rattle.gl_model_runs.specs.Run.{Answer, Made, says, shows}

-- both edges of line 0
abbrev pub asked : ℕ → List ℕ
asked fd = request [] (config 0x34 []) 1 0 fd

-- A device with one bank; a request of its chip's line, and an edge of it; the device is removed. Behind that the chip's
-- guard is closed: a read, a command and a poll are refused there. The request is closed; the chip is opened, and the
-- device removed, once more; it goes live again; its bank tells its chip, and can't be written.
unfoldable pub run : List Made
run =
    by 0 (MakeDir (codes "d"))
    ∷ by 0 (MakeDir (codes "d/b"))
    ∷ by 0 (MakeDir (codes "d"))
    ∷ by 0 (Live (codes "d"))
    ∷ by 0 (OpenChip (codes "gpiochip0"))
    ∷ ask_and_tell 3 GetLine (asked 0)
    ++ pull 0 true
    ∷ by 0 (Remove (codes "d") false)
    ∷ by 0 (Remove (codes "d") true)
    ∷ by 0 (RefusedCall 0 false)
    ∷ by 0 (RefusedCall 0 false)
    ∷ by 0 (RefusedCall 0 true)
    ∷ by 0 (Close 4)
    ∷ by 0 (OpenChip (codes "gpiochip0"))
    ∷ by 0 (Remove (codes "d") false)
    ∷ by 0 (Live (codes "d"))
    ∷ by 0 (Read (codes "d/b/chip_name"))
    ∷ by 0 (Write (codes "d/b/label") (codes "x"))
    ∷ []

-- the first entry of a removal writes its first place and how many places it has
unfoldable pub given : List Answer
given =
    says Done
    ∷ says Done
    ∷ says (Refused Exist)
    ∷ says Done
    ∷ says (Number 3)
    ∷ opened 4 asked
    ++ says Done
    ∷ shows (0 ∷ 1 ∷ [])
    ∷ says Done
    ∷ says (Refused NoDev)
    ∷ says (Refused NoDev)
    ∷ says (Ready 6)
    ∷ says Done
    ∷ says (Refused NoEnt)
    ∷ says (Refused Perm)
    ∷ says Done
    ∷ says (Text (codes "gpiochip1"))
    ∷ says (Refused Busy)
    ∷ []
