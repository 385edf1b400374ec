-- What interrupts and requests are to each other. The interrupt of a line that is held with an edge flag or with a debounce
-- period can't be taken, and a line without an interrupt can't be held with one. A line under an enabled lock can't become
-- an output, open-drain or not, by a request or by a new configuration; under a lock that is disabled it can, and locking
-- again enables. A new configuration is checked once more when the driver has answered.
use Rattle.std.specs.Prelude.{ℕ, List, [], ◌∷◌, ◌++◌, Some}
use Rattle.gl_base.specs.declared.errno.Errno.TheVariants.{Busy, Io, NxIo}
use Rattle.gl_base.specs.declared.irq.IrqDo.TheVariants.{Lock, Unlock, Enable, Disable, Never}
use Rattle.gl_uapi.specs.declared.commands.Command.TheVariants.{GetLine, SetConfig}
use Rattle.gl_model.specs.declared.call.Part.{Part}
use Rattle.gl_model.specs.declared.call.Part.TheVariants.{Ask, Tell}
use Rattle.gl_model.specs.declared.reply.Reply.{Reply}
use Rattle.gl_model.specs.declared.reply.Reply.TheVariants.{Done, Go, Refused}
use Rattle.gl_model_runs.specs.Rows.InterruptTable.{ask, close, fail, irq, refuse, tell}
use Rattle.gl_model_runs.specs.Rows.Structures.{answers_in, attribute, calls_in, command, config, four_lines, four_lines_given, gives, request}
use Rattle.gl_model_runs.specs.Run.{Answer, Made, says}

-- a line as an input that is debounced with 1000 microseconds
abbrev pub debounced : ℕ → ℕ → List ℕ
debounced offset fd = request (offset ∷ []) (config 0x4 (attribute 3 1000 0x1 ∷ [])) 1 0 fd

-- a new configuration of a request: the flags of its lines, beside the reply
abbrev pub configure : ℕ → ℕ → Part → Reply → Made × Answer
configure fd flags part reply = (command fd SetConfig (config flags []) part, says reply)

-- line 0 is held with a rising edge, with a falling edge, and with a period; then nobody has it
abbrev pub taken : List (Made × Answer)
taken =
    ask 0 0x14 4
    ∷ tell 0 0x14 4
    ∷ irq 0 Never (Refused Busy)
    ∷ irq 0 Lock Done
    ∷ irq 0 Unlock Done
    ∷ close 4
    ∷ ask 0 0x24 5
    ∷ tell 0 0x24 5
    ∷ irq 0 Never (Refused Busy)
    ∷ close 5
    ∷ (command 3 GetLine (debounced 0 0) Ask, says (Go 6))
    ∷ (command 3 GetLine (debounced 0 0) (Tell (Some 0)), gives 6 (debounced 0 6))
    ∷ irq 0 Never (Refused Busy)
    ∷ close 6
    ∷ irq 0 Never Done
    ∷ []

-- line 0 has no interrupt: it is asked for with edges and with a period, and held as an input, for which an edge, a period and
-- an output are configured
abbrev pub without_interrupt : List (Made × Answer)
without_interrupt =
    refuse 0 0x14 (Refused NxIo)
    ∷ refuse 0 0x24 (Refused NxIo)
    ∷ refuse 0 0x34 (Refused NxIo)
    ∷ (command 3 GetLine (debounced 0 0) Ask, says (Refused NxIo))
    ∷ ask 0 0x4 7
    ∷ tell 0 0x4 7
    ∷ configure 7 0x14 Ask (Refused NxIo)
    ∷ (command 7 SetConfig (config 0x4 (attribute 3 1000 0x1 ∷ [])) Ask, says (Refused NxIo))
    ∷ configure 7 0x8 Ask (Go 0)
    ∷ configure 7 0x8 (Tell (Some 0)) Done
    ∷ []

-- Line 1 is locked: asked for as an output, open-drain and not, and held as an input with edges. Its lock is disabled, and
-- enabled by one more lock.
abbrev pub locked : List (Made × Answer)
locked =
    irq 1 Lock Done
    ∷ refuse 1 0x8 (Refused Io)
    ∷ refuse 1 0x48 (Refused Io)
    ∷ ask 1 0x34 8
    ∷ tell 1 0x34 8
    ∷ configure 8 0x8 Ask (Refused Io)
    ∷ configure 8 0x48 Ask (Refused Io)
    ∷ configure 8 0x4 Ask (Go 0)
    ∷ configure 8 0x4 (Tell (Some 0)) Done
    ∷ close 8
    ∷ irq 1 Disable Done
    ∷ ask 1 0x48 9
    ∷ fail 1 0x48
    ∷ ask 1 0x8 10
    ∷ fail 1 0x8
    ∷ irq 1 Lock Done
    ∷ refuse 1 0x8 (Refused Io)
    ∷ irq 1 Unlock Done
    ∷ ask 1 0x8 11
    ∷ fail 1 0x8
    ∷ []

-- line 2 is configured as an output, and locked before the driver's answer is told; its lock is disabled, and it is configured so
-- once more
abbrev pub locked_between : List (Made × Answer)
locked_between =
    ask 2 0x4 12
    ∷ tell 2 0x4 12
    ∷ configure 12 0x8 Ask (Go 0)
    ∷ irq 2 Lock Done
    ∷ configure 12 0x8 (Tell (Some 0)) (Refused Io)
    ∷ irq 2 Disable Done
    ∷ configure 12 0x8 Ask (Go 0)
    ∷ configure 12 0x8 (Tell (Some 0)) Done
    ∷ irq 2 Enable (Refused Io)
    ∷ []

-- Line 3 is an open-drain output, and locked. It is configured so once more, closed, and asked for again. Its lock is disabled,
-- so that it can be requested, and enabled, so that it can't be configured as an output.
abbrev pub open_drain : List (Made × Answer)
open_drain =
    ask 3 0x48 13
    ∷ tell 3 0x48 13
    ∷ irq 3 Lock Done
    ∷ configure 13 0x48 Ask (Refused Io)
    ∷ close 13
    ∷ refuse 3 0x48 (Refused Io)
    ∷ irq 3 Disable Done
    ∷ ask 3 0x48 14
    ∷ tell 3 0x48 14
    ∷ irq 3 Enable Done
    ∷ configure 14 0x48 Ask (Refused Io)
    ∷ []

abbrev pub exchanges : List (Made × Answer)
exchanges = taken ++ without_interrupt ++ locked ++ locked_between ++ open_drain

unfoldable pub run : List Made
run = four_lines ++ calls_in exchanges

unfoldable pub given : List Answer
given = four_lines_given ++ answers_in exchanges
