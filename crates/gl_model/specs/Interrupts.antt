-- The calls on the interrupts of a chip's lines. From the kernel's document on GPIO drivers; the refusals and their order are
-- this project's choice.
use Rattle.std.specs.Prelude.{ℕ, Bool, true, false, not, ◌==◌, ◌&&◌, ◌||◌, [], ◌∷◌}
use Rattle.gl_bank.specs.Level.{levels_at}
use Rattle.gl_base.specs.Bits.{has_bit}
use Rattle.gl_base.specs.Positions.{change_at}
use Rattle.gl_base.specs.Refusals.{first_of}
use Rattle.gl_base.specs.declared.flag.TheConstants.{OPEN_DRAIN}
use Rattle.gl_base.specs.declared.irq.IrqDo.{IrqDo}
use Rattle.gl_desc.specs.Desc.{desc_at}
use Rattle.gl_desc.specs.declared.desc.Holder.{Holder}
use Rattle.gl_desc.specs.declared.desc.Holder.TheVariants.{Free, Claimed, Held, Hog}
use Rattle.gl_flags.specs.FlagFault.{has_edge}
use Rattle.gl_irq.specs.Irq.{act_refusal, done as irq_done, first_irq}
use Rattle.gl_irq.specs.declared.irq.IrqLine.{IrqLine}
use Rattle.gl_model.specs.declared.place.Place.{Place}
use Rattle.gl_model.specs.Chips.{place_refusal}
use Rattle.gl_model.specs.Outcome.{Outcome, done, refused_or}
use Rattle.gl_model.specs.Places.{place_at, with_place}
use Rattle.gl_model.specs.World.{World}

-- a request has claimed the line, and doesn't hold it yet
abbrev pub is_claimed : Holder → Bool
is_claimed Free = false
is_claimed (Claimed fd) = true
is_claimed (Held fd) = false
is_claimed Hog = false

-- what the interrupt of a line has to know of the line: whether it is claimed, an output, an open-drain one, and held with an
-- edge flag or a debounce period
abbrev pub irq_line : Place → ℕ → IrqLine
irq_line place offset =
    let line = levels_at place.bank offset in
    record {
      claimed = is_claimed (desc_at place.descs offset).holder;
      output = line.output;
      open_drain = has_bit line.flags OPEN_DRAIN;
      watched = line.held && (has_edge line.flags || not (line.debounce_us == 0));
    }

-- Irq: ENOENT where no chip was made there, and then the cases of the interrupts.
abbrev pub irq : ℕ → ℕ → IrqDo → World → Outcome
irq place offset what w =
    let tables = place_at w place in
    refused_or (first_of (place_refusal place w ∷ act_refusal tables.irqs offset what (irq_line tables offset) ∷ [])) w
    (done (with_place place (λ tables. record tables { irqs = change_at first_irq offset (irq_done what) tables.irqs }) w))
