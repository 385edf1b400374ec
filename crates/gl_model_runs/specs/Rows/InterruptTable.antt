-- The interrupt locks, case by case. Every call is refused on a line that isn't there. A lock is refused where the line is
-- claimed, then where it has no interrupt, then where it is an output that isn't open-drain; else the line is locked and
-- enabled, and so it is where it was locked before. Unlocking and disabling are refused where the line isn't locked, and
-- in no other case. Enabling is refused where the line isn't locked, then where it is claimed, then where it is an output that
-- isn't open-drain. The interrupt is taken for good, refused_or the line is locked or claimed, or held as in `LockedLines`. A line that a request holds can be
-- locked as one that nobody has.
use Rattle.std.specs.Prelude.{ℕ, List, [], ◌∷◌, ◌++◌, Some, None}
use Rattle.gl_base.specs.declared.errno.Errno.TheVariants.{Busy, Inval, Io, NoEnt, NxIo}
use Rattle.gl_base.specs.declared.irq.IrqDo.{IrqDo}
use Rattle.gl_base.specs.declared.irq.IrqDo.TheVariants.{Lock, Unlock, Enable, Disable, Never}
use Rattle.gl_uapi.specs.declared.commands.Command.TheVariants.{GetLine}
use Rattle.gl_model.specs.declared.call.Call.TheVariants.{Close, Irq}
use Rattle.gl_model.specs.declared.call.Part.TheVariants.{Ask, Tell}
use Rattle.gl_model.specs.declared.reply.Reply.{Reply}
use Rattle.gl_model.specs.declared.reply.Reply.TheVariants.{Done, Go, Refused}
use Rattle.gl_model_runs.specs.Rows.Structures.{answers_in, by, calls_in, command, config, four_lines, four_lines_given, gives, request}
use Rattle.gl_model_runs.specs.Run.{Answer, Made, says}

-- a line with these flags
abbrev pub asked : ℕ → ℕ → ℕ → List ℕ
asked offset flags fd = request (offset ∷ []) (config flags []) 1 0 fd

-- a call on the interrupt of a line, beside its reply
abbrev pub irq : ℕ → IrqDo → Reply → Made × Answer
irq offset what reply = (by 0 (Irq 0 offset what), says reply)

-- a line is asked for, and claimed by this number
abbrev pub ask : ℕ → ℕ → ℕ → Made × Answer
ask offset flags fd = (command 3 GetLine (asked offset flags 0) Ask, says (Go fd))

-- a line with these flags is asked for, and refused
abbrev pub refuse : ℕ → ℕ → Reply → Made × Answer
refuse offset flags reply = (command 3 GetLine (asked offset flags 0) Ask, says reply)

-- the driver did it: the claim is a hold
abbrev pub tell : ℕ → ℕ → ℕ → Made × Answer
tell offset flags fd = (command 3 GetLine (asked offset flags 0) (Tell (Some 0)), gives fd (asked offset flags fd))

-- the driver failed: the claim is gone
abbrev pub fail : ℕ → ℕ → Made × Answer
fail offset flags = (command 3 GetLine (asked offset flags 0) (Tell None), says (Refused Io))

-- a request is closed
abbrev pub close : ℕ → Made × Answer
close fd = (by 0 (Close fd), says Done)

-- the chip has no line 4, and place 1 has no chip
abbrev pub past : List (Made × Answer)
past =
    irq 4 Lock (Refused Inval)
    ∷ irq 4 Unlock (Refused Inval)
    ∷ irq 4 Enable (Refused Inval)
    ∷ irq 4 Disable (Refused Inval)
    ∷ irq 4 Never (Refused Inval)
    ∷ (by 0 (Irq 1 0 Lock), says (Refused NoEnt))
    ∷ []

-- Line 0 isn't locked, and loses its interrupt: free, claimed, held as an input, and held as an output. That it is claimed
-- comes before that it has no interrupt, and this before that it is an output; that it isn't locked comes first of all.
abbrev pub without_interrupt : List (Made × Answer)
without_interrupt =
    irq 0 Unlock (Refused Inval)
    ∷ irq 0 Enable (Refused Inval)
    ∷ irq 0 Disable (Refused Inval)
    ∷ irq 0 Never Done
    ∷ irq 0 Lock (Refused NxIo)
    ∷ ask 0 0x4 4
    ∷ irq 0 Lock (Refused Busy)
    ∷ irq 0 Unlock (Refused Inval)
    ∷ irq 0 Enable (Refused Inval)
    ∷ irq 0 Disable (Refused Inval)
    ∷ irq 0 Never (Refused Busy)
    ∷ tell 0 0x4 4
    ∷ irq 0 Lock (Refused NxIo)
    ∷ irq 0 Never Done
    ∷ close 4
    ∷ ask 0 0x8 5
    ∷ tell 0 0x8 5
    ∷ irq 0 Lock (Refused NxIo)
    ∷ irq 0 Enable (Refused Inval)
    ∷ []

-- Line 1 is held as an input: it is locked, twice, disabled, twice, enabled, and unlocked. Then it is locked while nobody has
-- it, and claimed.
abbrev pub input : List (Made × Answer)
input =
    ask 1 0x4 6
    ∷ tell 1 0x4 6
    ∷ irq 1 Lock Done
    ∷ irq 1 Lock Done
    ∷ irq 1 Never (Refused Busy)
    ∷ irq 1 Disable Done
    ∷ irq 1 Disable Done
    ∷ irq 1 Never (Refused Busy)
    ∷ irq 1 Enable Done
    ∷ irq 1 Unlock Done
    ∷ irq 1 Unlock (Refused Inval)
    ∷ irq 1 Enable (Refused Inval)
    ∷ irq 1 Disable (Refused Inval)
    ∷ close 6
    ∷ irq 1 Lock Done
    ∷ ask 1 0x4 7
    ∷ irq 1 Lock (Refused Busy)
    ∷ irq 1 Enable (Refused Busy)
    ∷ irq 1 Never (Refused Busy)
    ∷ irq 1 Disable Done
    ∷ irq 1 Enable (Refused Busy)
    ∷ irq 1 Unlock Done
    ∷ irq 1 Never (Refused Busy)
    ∷ fail 1 0x4
    ∷ irq 1 Never Done
    ∷ []

-- Line 2 is an output, held and then free, as its direction outlives its release. As an input it is locked: it can be no output
-- while its lock is enabled, by the lock itself or by the call that enables, and it can be one while this is disabled. That it is
-- claimed comes before that it is an output.
abbrev pub output : List (Made × Answer)
output =
    ask 2 0x8 8
    ∷ tell 2 0x8 8
    ∷ irq 2 Lock (Refused Io)
    ∷ close 8
    ∷ irq 2 Lock (Refused Io)
    ∷ ask 2 0x4 9
    ∷ tell 2 0x4 9
    ∷ close 9
    ∷ irq 2 Lock Done
    ∷ refuse 2 0x8 (Refused Io)
    ∷ irq 2 Disable Done
    ∷ irq 2 Enable Done
    ∷ refuse 2 0x8 (Refused Io)
    ∷ irq 2 Disable Done
    ∷ ask 2 0x8 10
    ∷ tell 2 0x8 10
    ∷ irq 2 Enable (Refused Io)
    ∷ irq 2 Disable Done
    ∷ irq 2 Lock (Refused Io)
    ∷ close 10
    ∷ ask 2 0x8 11
    ∷ irq 2 Enable (Refused Busy)
    ∷ irq 2 Lock (Refused Busy)
    ∷ fail 2 0x8
    ∷ irq 2 Unlock Done
    ∷ []

-- Line 3 is an open-drain output, which can be locked and enabled. Closed it is an output still, and open-drain no more.
abbrev pub open_drain : List (Made × Answer)
open_drain =
    ask 3 0x48 12
    ∷ tell 3 0x48 12
    ∷ irq 3 Lock Done
    ∷ irq 3 Disable Done
    ∷ irq 3 Enable Done
    ∷ irq 3 Unlock Done
    ∷ irq 3 Lock Done
    ∷ irq 3 Lock Done
    ∷ close 12
    ∷ irq 3 Enable (Refused Io)
    ∷ irq 3 Lock (Refused Io)
    ∷ irq 3 Unlock Done
    ∷ []

abbrev pub table : List (Made × Answer)
table = past ++ without_interrupt ++ input ++ output ++ open_drain

unfoldable pub run : List Made
run = four_lines ++ calls_in table

unfoldable pub given : List Answer
given = four_lines_given ++ answers_in table
