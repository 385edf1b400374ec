-- Two chips beside each other, one of a device with hogged lines and one that was probed. A change of a line goes to no file
-- of the other chip that watches the same offset. A hogged line's interrupt can be locked and taken away like that of a line which nobody
-- has claimed: only its direction and its interrupt decide. A removal is ended by the actor that began it, once, and where none
-- was begun there is none to end, at a place without a chip as well.
use Rattle.std.specs.Prelude.{ℕ, List, [], ◌∷◌, ◌++◌, codes, true, false, Some}
use Rattle.gl_base.specs.declared.errno.Errno.TheVariants.{Again, Busy, Inval, Io, NoDev, NoEnt, NxIo}
use Rattle.gl_base.specs.declared.irq.IrqDo.TheVariants.{Lock, Unlock, Enable, Disable, Never}
use Rattle.gl_base.specs.declared.kind.Kind.TheVariants.{Simulated}
use Rattle.gl_uapi.specs.declared.commands.Command.TheVariants.{GetLine, Watch}
use Rattle.gl_model.specs.declared.call.Call.TheVariants.{Close, Irq, Live, MakeDir, OpenChip, PollChip, Probe, ReadInfo, Unplug, Write}
use Rattle.gl_model.specs.declared.call.Part.TheVariants.{Whole, Ask, Tell}
use Rattle.gl_model.specs.declared.reply.Reply.TheVariants.{Done, Go, Number, Ready, Refused}
use Rattle.gl_model_runs.specs.Rows.Structures.{answers_in, by, calls_in, change, config, does, fails, gives, info, ioctl, request}
use Rattle.gl_model_runs.specs.Run.{Answer, Made, says, shows}

-- line 2 as an input
abbrev pub asked : ℕ → List ℕ
asked fd = request (2 ∷ []) (config 0x4 []) 1 0 fd

-- A device goes live with a chip of three lines, of which line 0 is hogged as an input and line 1 as an output. A second chip of
-- three lines is probed, and both are opened.
abbrev pub built : List (Made × Answer)
built =
    does (MakeDir (codes "d"))
    ∷ does (MakeDir (codes "d/b"))
    ∷ does (Write (codes "d/b/num_lines") (codes "3"))
    ∷ does (MakeDir (codes "d/b/line0"))
    ∷ does (MakeDir (codes "d/b/line0/hog"))
    ∷ does (MakeDir (codes "d/b/line1"))
    ∷ does (MakeDir (codes "d/b/line1/hog"))
    ∷ does (Write (codes "d/b/line1/hog/direction") (codes "output-low"))
    ∷ does (Live (codes "d"))
    ∷ (by 0 (Probe (codes "demo") 3 Simulated), says (Number 1))
    ∷ (by 0 (OpenChip (codes "0")), says (Number 3))
    ∷ (by 0 (OpenChip (codes "1")), says (Number 4))
    ∷ []

-- Line 2 of each chip is watched. That of the second chip is requested and closed.
abbrev pub watched : List (Made × Answer)
watched =
    (by 0 (ioctl 0 3 Watch (info [] 2 0) Whole), shows (info [] 2 0x4))
    ∷ (by 0 (ioctl 1 4 Watch (info [] 2 0) Whole), shows (info [] 2 0x4))
    ∷ (by 0 (ioctl 1 4 GetLine (asked 0) Ask), says (Go 5))
    ∷ (by 0 (ioctl 1 4 GetLine (asked 0) (Tell (Some 0))), gives 5 (asked 5))
    ∷ does (Close 5)
    ∷ (by 0 (PollChip 0 3), says (Ready 0))
    ∷ fails (ReadInfo 0 3 9216) Again
    ∷ (by 0 (ReadInfo 1 4 9216), gives 576 (change (info (codes "?") 2 0x5) 0 1 ++ change (info [] 2 0x4) 0 2))
    ∷ []

-- the hogged lines' interrupts: of the input, and of the output
abbrev pub hogged : List (Made × Answer)
hogged =
    does (Irq 0 0 Lock)
    ∷ does (Irq 0 0 Disable)
    ∷ does (Irq 0 0 Enable)
    ∷ fails (Irq 0 0 Never) Busy
    ∷ does (Irq 0 0 Unlock)
    ∷ does (Irq 0 0 Never)
    ∷ fails (Irq 0 0 Lock) NxIo
    ∷ fails (Irq 0 1 Enable) Inval
    ∷ fails (Irq 0 1 Lock) Io
    ∷ does (Irq 0 1 Never)
    ∷ []

-- The second chip is removed by actor 1. Nobody else ends that, and nothing ends before it was begun, or twice.
abbrev pub removed : List (Made × Answer)
removed =
    (by 1 (Unplug 1 true), says (Refused Busy))
    ∷ (by 1 (Unplug 2 false), says (Refused NoEnt))
    ∷ (by 1 (Unplug 2 true), says (Refused Busy))
    ∷ (by 1 (Unplug 1 false), shows (1 ∷ 1 ∷ []))
    ∷ fails (Unplug 1 false) Busy
    ∷ fails (Unplug 1 true) Busy
    ∷ (by 1 (Unplug 2 true), says (Refused Busy))
    ∷ fails (OpenChip (codes "1")) NoDev
    ∷ (by 1 (Unplug 1 true), says Done)
    ∷ (by 1 (Unplug 1 true), says (Refused Busy))
    ∷ fails (OpenChip (codes "1")) NoEnt
    ∷ fails (Unplug 1 false) NoDev
    ∷ []

abbrev pub exchanges : List (Made × Answer)
exchanges = built ++ watched ++ hogged ++ removed

unfoldable pub run : List Made
run = calls_in exchanges

unfoldable pub given : List Answer
given = answers_in exchanges
