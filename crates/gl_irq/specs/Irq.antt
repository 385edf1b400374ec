-- The interrupts of a chip's lines. From the kernel's document on GPIO drivers (locking of lines as interrupts); the
-- refusals and their order are this project's choice.
use Rattle.std.specs.Prelude.{ℕ, Bool, true, false, not, ◌&&◌, ◌||◌, nat_le, List, [], ◌∷◌, Option, length, slice_index_or}
use Rattle.std.specs.Option.{option_or}
use Rattle.gl_base.specs.Refusals.{when, first_of}
use Rattle.gl_base.specs.declared.errno.Errno.{Errno}
use Rattle.gl_base.specs.declared.errno.Errno.TheVariants.{Inval, Busy, NxIo, Io}
use Rattle.gl_base.specs.declared.irq.IrqDo.{IrqDo}
use Rattle.gl_base.specs.declared.irq.IrqDo.TheVariants.{Lock, Unlock, Enable, Disable, Never}
use Rattle.gl_irq.specs.declared.irq.Irq.{Irq}
use Rattle.gl_irq.specs.declared.irq.IrqLine.{IrqLine}

-- a line at first: it has an interrupt, which isn't locked
abbrev pub first_irq : Irq
first_irq = record { has = true; locked = false; enabled = false }

-- the interrupt of the line at an offset
abbrev pub irq_at : List Irq → ℕ → Irq
irq_at irqs offset = slice_index_or irqs offset first_irq

-- an output that isn't open-drain, which no enabled interrupt can stand on
abbrev pub is_push_pull : IrqLine → Bool
is_push_pull line = line.output && not line.open_drain

-- why what is to be done with an interrupt is refused, first case first
abbrev pub refusal : IrqDo → IrqLine → Irq → Option Errno
refusal Lock line irq = first_of (when line.claimed Busy ∷ when (not irq.has) NxIo ∷ when (is_push_pull line) Io ∷ [])
refusal Unlock line irq = when (not irq.locked) Inval
refusal Enable line irq = first_of (when (not irq.locked) Inval ∷ when line.claimed Busy ∷ when (is_push_pull line) Io ∷ [])
refusal Disable line irq = when (not irq.locked) Inval
refusal Never line irq = when (irq.locked || line.claimed || line.watched) Busy

-- the interrupt when it was done
abbrev pub done : IrqDo → Irq → Irq
done Lock irq = record irq { locked = true; enabled = true }
done Unlock irq = record irq { locked = false; enabled = false }
done Enable irq = record irq { enabled = true }
done Disable irq = record irq { enabled = false }
done Never irq = record irq { has = false }

-- why a call is refused: an offset past the lines comes first
abbrev pub act_refusal : List Irq → ℕ → IrqDo → IrqLine → Option Errno
act_refusal irqs offset what line = option_or (when (nat_le (length irqs) offset) Inval) (refusal what line (irq_at irqs offset))
