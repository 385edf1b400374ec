-- What is true of the core's tables at every moment: each chip has its origin, and tables of as many lines as it has. And the
-- tables that wait for a chip.
use Rattle.std.specs.Prelude.{◌≡◌, ℕ, ◌+◌, ◌^◌, ◌<◌, ◌≤◌, List, length, slice_index, slice_index_or}
use Rattle.gl_base.specs.declared.lines.Lines.{Lines}
use Rattle.gl_base.specs.declared.limits.TheConstants.{LINES_MAX, PLACES}
use Rattle.gl_registry.specs.Chips.{chip_at}
use Rattle.gl_registry.specs.declared.registry.Chip.{Chip}
use Rattle.gl_model.specs.declared.place.Origin.{Origin}
use Rattle.gl_model.specs.declared.place.Place.{Place}
use Rattle.gl_model.specs.Places.{no_place}
use Rattle.gl_base.specs.Positions.{change_at}
use Rattle.gl_base.specs.Refusals.{unless}
use Rattle.gl_base.specs.declared.irq.IrqDo.{IrqDo}
use Rattle.gl_base.specs.declared.pin.PinDo.{PinDo}
use Rattle.gl_irq.specs.Irq.{act_refusal, done, first_irq}
use Rattle.gl_model.specs.Interrupts.{irq_line}
use Rattle.gl_model.specs.Pins.{pin_done, pin_refusal}

-- the tables of a place are of so many lines, as a chip may have
pub record HasLines (lines : ℕ) (place : Place) : Type 0 where
  pub few : lines ≤ LINES_MAX
  pub descs : length place.descs ≡ lines
  pub bank : length place.bank ≡ lines
  pub irqs : length place.irqs ≡ lines

-- there are no more chips than places; each has its origin and the tables of its lines; past the chips there are none
pub record IsShaped (chips : List Chip) (origins : List Origin) (places : List Place) : Type 0 where
  pub few : length chips ≤ PLACES
  pub origins_as_many : length origins ≡ length chips
  pub places_as_many : length places ≡ length chips
  pub lines : (p : ℕ) → HasLines (chip_at chips p).lines (slice_index_or places p no_place)

-- there is room for the origin of each chip, and the monotonic clock is below 2^63
pub record IsWithin (capacity mono : ℕ) : Type 0 where
  pub room : capacity ≡ PLACES
  pub clock : mono < 2 ^ 63

-- a line of a place that is there
pub record HasLine (places : List Place) (place offset : ℕ) : Type 0 where
  pub few : length places ≤ PLACES
  pub place_within : place < length places
  pub within : HasLines (length (slice_index_or places place no_place).descs) (slice_index_or places place no_place)
  pub offset_within : offset < length (slice_index_or places place no_place).descs

-- the place and the offset of a line are in range
abbrev pub IsInRange : ℕ → ℕ → Type 0
IsInRange place offset = (place < PLACES) × (offset < LINES_MAX)

-- each line of a request is a line of a place that is there
abbrev pub HasEachLine : List Place → ℕ → Lines → Type 0
HasEachLine places place lines = (i : ℕ) → i < lines.count → HasLine places place (slice_index lines.offsets i)

-- each line that was there is there still
abbrev pub KeepsLines : List Place → List Place → Type 0
KeepsLines old new = (place offset : ℕ) → HasLine old place offset → HasLine new place offset

-- a place that is there, with so many lines
pub record HasPlace (lines : ℕ) (places : List Place) (place : ℕ) : Type 0 where
  pub place_within : place < length places
  pub within : HasLines lines (slice_index_or places place no_place)

-- tables that wait for a chip have no lines
abbrev pub AreNew : List Place → Type 0
AreNew places = (k : ℕ) (d : Place) → k < length places → slice_index_or places k d ≡ no_place

-- the tables that wait are new, and there is room for them among the others
pub record IsSpare (used spare : List Place) (capacity : ℕ) : Type 0 where
  pub all_places : length used + length spare ≡ PLACES
  pub room : capacity ≡ PLACES
  pub all_new : AreNew spare

-- the tables of a place after something was done with the interrupt of a line, or refused
abbrev pub with_irq_done : ℕ → IrqDo → Place → Place
with_irq_done offset what place = record place {
  irqs = unless (act_refusal place.irqs offset what (irq_line place offset)) (change_at first_irq offset (done what) place.irqs) place.irqs;
}

-- the tables of a place of so many lines after something was done with its pins, or refused
abbrev pub with_pin_done : ℕ → PinDo → Place → Place
with_pin_done lines what place = record place { pins = unless (pin_refusal lines place what) (pin_done what place.pins) place.pins }
