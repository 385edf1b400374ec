-- The chips of a world: making them, and what a place tells of its chip. From the kernel's document on GPIO drivers;
-- that a place is used once in a machine's life is this project's choice.
use Rattle.std.specs.Prelude.{ℕ, zero, suc, ◌+◌, ◌-◌, nat_le, List, [], ◌∷◌, ◌++◌, length, replicate, Option, None}
use Rattle.gl_bank.specs.Level.{first_levels}
use Rattle.gl_base.specs.Refusals.{when}
use Rattle.gl_base.specs.declared.errno.Errno.{Errno}
use Rattle.gl_base.specs.declared.errno.Errno.TheVariants.{NoEnt, NoSpc}
pub use Rattle.gl_base.specs.Phases.{is_absent, is_leaving, is_up}
use Rattle.gl_base.specs.declared.kind.Kind.{Kind}
use Rattle.gl_base.specs.declared.limits.TheConstants.{PLACES}
use Rattle.gl_base.specs.declared.phase.Phase.{Phase}
use Rattle.gl_desc.specs.Desc.{first_desc}
use Rattle.gl_irq.specs.Irq.{first_irq}
use Rattle.gl_pins.specs.Pins.{no_pins}
use Rattle.gl_registry.specs.Chips.{chip_at, new_chip}
use Rattle.gl_registry.specs.declared.registry.Chip.{Chip}
use Rattle.gl_model.specs.declared.place.Origin.{Origin}
use Rattle.gl_model.specs.declared.place.Place.{Place}
use Rattle.gl_model.specs.Outcome.{Outcome, numbers, refused_or}
use Rattle.gl_model.specs.World.{World}

-- the n places from this one on
abbrev pub places_from : ℕ → ℕ → List ℕ
places_from place zero = []
places_from place (suc n) = place ∷ places_from (place + 1) n

-- the places at which a chip was made, in order
abbrev pub used_places : World → List ℕ
used_places w = places_from 0 (length w.chips)

-- how many places are left
abbrev pub places_left : World → ℕ
places_left w = PLACES - length w.chips

-- how far the chip of a place has come
abbrev pub phase_at : World → ℕ → Phase
phase_at w place = (chip_at w.chips place).phase

-- why a call that names a place is refused: no chip was ever made there
abbrev pub place_refusal : ℕ → World → Option Errno
place_refusal place w = when (is_absent (phase_at w place)) NoEnt

-- where a new chip comes from
abbrev pub new_origin : Kind → Option (List ℕ) → Origin
new_origin kind device = record { kind = kind; device = device; remover = None }

-- the tables of a new chip with so many lines
abbrev pub new_place : ℕ → Place
new_place lines = record {
  descs = replicate lines first_desc;
  bank = replicate lines first_levels;
  irqs = replicate lines first_irq;
  pins = no_pins;
}

-- the world with some chips more, each with its origin and its tables
abbrev pub with_chips : List Chip → List Origin → List Place → World → World
with_chips chips origins places w = record w {
  chips = w.chips ++ chips;
  origins = w.origins ++ origins;
  places = w.places ++ places;
}

-- Probe makes a chip outside the tree at the next place, and answers this place: ENOSPC where all places were used.
abbrev pub probe : List ℕ → ℕ → Kind → World → Outcome
probe label lines kind w =
    refused_or (when (nat_le PLACES (length w.chips)) NoSpc) w
    (numbers (length w.chips) (with_chips (new_chip label lines ∷ []) (new_origin kind None ∷ []) (new_place lines ∷ []) w))
