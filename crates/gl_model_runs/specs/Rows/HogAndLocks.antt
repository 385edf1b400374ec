-- A hogged line, a line that is locked as an interrupt, and a line without an interrupt, with the information on them.
use Rattle.std.specs.Prelude.{ℕ, List, [], ◌∷◌, ◌++◌, codes, false}
use Rattle.gl_base.specs.declared.errno.Errno.TheVariants.{Busy, Io, NxIo}
use Rattle.gl_base.specs.declared.irq.IrqDo.TheVariants.{Lock, Disable, Never}
use Rattle.gl_uapi.specs.declared.commands.Command.TheVariants.{LineInfo, GetLine}
use Rattle.gl_model.specs.declared.call.Call.TheVariants.{Close, Irq, Level, Live, MakeDir, OpenChip, Write}
use Rattle.gl_model.specs.declared.call.Part.TheVariants.{Whole, Ask}
use Rattle.gl_model.specs.declared.reply.Reply.TheVariants.{Done, Number, Refused}
use Rattle.gl_model_runs.specs.Rows.Structures.{ask_and_tell, attribute, by, command, config, info, opened, request}
use Rattle.gl_model_runs.specs.Run.{Answer, Made, says, shows}

-- a line as an input; as an output that is driven 1; and with both its edges
abbrev pub input : ℕ → List ℕ
input offset = request (offset ∷ []) (config 0x4 []) 1 0 0

abbrev pub output : ℕ → ℕ → List ℕ
output offset fd = request (offset ∷ []) (config 0x8 (attribute 2 0x1 0x1 ∷ [])) 1 0 fd

abbrev pub edges : ℕ → List ℕ
edges offset = request (offset ∷ []) (config 0x34 []) 1 0 0

-- A device with a bank of three lines, the first of them hogged as an output. Line 0 is asked for, and its level; line 1 is
-- locked, asked for, disabled, asked for, and closed; line 2 loses its interrupt and is asked for.
unfoldable pub run : List Made
run =
    by 0 (MakeDir (codes "d"))
    ∷ by 0 (MakeDir (codes "d/b"))
    ∷ by 0 (Write (codes "d/b/num_lines") (codes "3"))
    ∷ by 0 (MakeDir (codes "d/b/line0"))
    ∷ by 0 (MakeDir (codes "d/b/line0/hog"))
    ∷ by 0 (Write (codes "d/b/line0/hog/name") (codes "led"))
    ∷ by 0 (Write (codes "d/b/line0/hog/direction") (codes "output-high"))
    ∷ by 0 (Live (codes "d"))
    ∷ by 0 (OpenChip (codes "0"))
    ∷ command 3 GetLine (input 0) Ask
    ∷ by 0 (Level 0 0 false)
    ∷ by 0 (Irq 0 1 Lock)
    ∷ command 3 GetLine (output 1 0) Ask
    ∷ by 0 (Irq 0 1 Disable)
    ∷ ask_and_tell 3 GetLine (output 1 0)
    ++ by 0 (Close 4)
    ∷ by 0 (Irq 0 2 Never)
    ∷ command 3 GetLine (edges 2) Ask
    ∷ command 3 LineInfo (info [] 0 0) Whole
    ∷ command 3 LineInfo (info [] 1 0) Whole
    ∷ command 3 LineInfo (info [] 2 0) Whole
    ∷ []

-- the hog and the lock are used outputs, and line 2 is a free input
unfoldable pub given : List Answer
given =
    says Done
    ∷ says Done
    ∷ says Done
    ∷ says Done
    ∷ says Done
    ∷ says Done
    ∷ says Done
    ∷ says Done
    ∷ says (Number 3)
    ∷ says (Refused Busy)
    ∷ says (Number 1)
    ∷ says Done
    ∷ says (Refused Io)
    ∷ says Done
    ∷ opened 4 (output 1)
    ++ says Done
    ∷ says Done
    ∷ says (Refused NxIo)
    ∷ shows (info (codes "led") 0 0x9)
    ∷ shows (info (codes "interrupt") 1 0x9)
    ∷ shows (info [] 2 0x4)
    ∷ []
