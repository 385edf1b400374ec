-- An actor's calls of the device, one after another, with the entries that each makes: calls of one entry, a command whose driver
-- is asked and makes entries of its own, commands whose ask is refused, whose driver fails and whose driver isn't asked, a
-- device's removal, a poll and a command at its chip's closed guard, and removals that are refused.
use Rattle.std.specs.Prelude.{ℕ, List, [], ◌∷◌, ◌++◌, codes, true, false, Some, None}
use Rattle.gl_base.specs.declared.errno.Errno.TheVariants.{Busy, Fault, Io, NoDev, Perm}
use Rattle.gl_uapi.specs.Fields.{zeros}
use Rattle.gl_uapi.specs.declared.commands.Command.TheVariants.{GetLine, GetValues}
use Rattle.gl_model.specs.declared.call.Call.TheVariants.{Close, Level, Live, MakeDir, OpenChip, PollLine, Pull, Refused as RefusedCall, Remove, Unplug}
use Rattle.gl_model.specs.declared.call.Part.TheVariants.{Whole, Ask, Tell}
use Rattle.gl_model.specs.declared.reply.Reply.TheVariants.{Go, Number, Ready, Refused}
use Rattle.gl_model_runs.specs.Rows.Structures.{answers_in, by, calls_in, command, config, does, fails, gives, request, values}
use Rattle.gl_model_runs.specs.Run.{Answer, Made, says, shows}

-- both edges of line 0
abbrev pub asked : ℕ → List ℕ
asked fd = request [] (config 0x34 []) 1 0 fd

-- The device goes live, and its chip is opened. The line is requested, and before it answers the driver pulls the line up and reads
-- its level. The line is asked for once more; its value is asked for in a buffer that is too short, and then of a driver that fails.
abbrev pub live : List (Made × Answer)
live =
    does (MakeDir (codes "d"))
    ∷ does (MakeDir (codes "d/b"))
    ∷ does (Live (codes "d"))
    ∷ (by 0 (OpenChip (codes "0")), says (Number 3))
    ∷ (command 3 GetLine (asked 0) Ask, says (Go 4))
    ∷ does (Pull 0 0 true)
    ∷ (by 0 (Level 0 0 false), says (Number 1))
    ∷ (command 3 GetLine (asked 0) (Tell (Some 0)), gives 4 (asked 4))
    ∷ (command 3 GetLine (asked 0) Ask, says (Refused Busy))
    ∷ (command 4 GetValues (zeros 15) Whole, says (Refused Fault))
    ∷ (command 4 GetValues (values 0 0x1) Ask, says (Go 0))
    ∷ (command 4 GetValues (values 0 0x1) (Tell None), says (Refused Io))
    ∷ (by 0 (PollLine 0 4), says (Ready 0))
    ∷ []

-- The device is removed, once. At the closed guard a poll and a command are refused; the files are closed.
abbrev pub removed : List (Made × Answer)
removed =
    fails (Unplug 0 false) Perm
    ∷ (by 0 (Remove (codes "d") false), shows (0 ∷ 1 ∷ []))
    ∷ does (Remove (codes "d") true)
    ∷ (by 0 (RefusedCall 0 true), says (Ready 6))
    ∷ fails (RefusedCall 0 false) NoDev
    ∷ fails (Remove (codes "d") false) Perm
    ∷ does (Close 4)
    ∷ does (Close 3)
    ∷ []

abbrev pub exchanges : List (Made × Answer)
exchanges = live ++ removed

unfoldable pub run : List Made
run = calls_in exchanges

unfoldable pub given : List Answer
given = answers_in exchanges
