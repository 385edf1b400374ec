-- The calls on the pins of a chip. From the kernel's document on GPIO drivers; the refusals and their order are this project's
-- choice.
use Rattle.std.specs.Prelude.{ℕ, Bool, true, [], ◌∷◌, Option, Some, None}
use Rattle.gl_base.specs.Refusals.{first_of}
use Rattle.gl_base.specs.declared.errno.Errno.{Errno}
use Rattle.gl_base.specs.declared.pin.PinDo.{PinDo}
use Rattle.gl_base.specs.declared.pin.PinDo.TheVariants.{Range, Hold, Release}
use Rattle.gl_desc.specs.Desc.{desc_at, is_free}
use Rattle.gl_pins.specs.Pins.{PinTable, drop_refusal, hold_refusal, line_of, range_refusal, with_held, with_range, without_held}
use Rattle.gl_model.specs.declared.place.Place.{Place}
use Rattle.gl_model.specs.Chips.{place_refusal}
use Rattle.gl_model.specs.Outcome.{Outcome, done, refused_or}
use Rattle.gl_model.specs.Places.{lines_at, place_at, with_place}
use Rattle.gl_model.specs.World.{World}

-- nobody has the line that a range maps to a pin, if one does
abbrev pub is_line_free : Place → Option ℕ → Bool
is_line_free place None = true
is_line_free place (Some offset) = is_free (desc_at place.descs offset).holder

-- why a call on the pins of a chip with so many lines is refused
abbrev pub pin_refusal : ℕ → Place → PinDo → Option Errno
pin_refusal lines place (Range offset pin count) = range_refusal place.pins lines (record { offset = offset; pin = pin; count = count })
pin_refusal lines place (Hold pin) = hold_refusal place.pins pin (is_line_free place (line_of place.pins pin))
pin_refusal lines place (Release pin) = drop_refusal place.pins pin

-- the pins when it was done
abbrev pub pin_done : PinDo → PinTable → PinTable
pin_done (Range offset pin count) pins = with_range (record { offset = offset; pin = pin; count = count }) pins
pin_done (Hold pin) pins = with_held pin pins
pin_done (Release pin) pins = without_held pin pins

-- Pin: ENOENT where no chip was made there, and then the cases of the pins.
abbrev pub pin : ℕ → PinDo → World → Outcome
pin place what w =
    refused_or (first_of (place_refusal place w ∷ pin_refusal (lines_at w place) (place_at w place) what ∷ [])) w
    (done (with_place place (λ tables. record tables { pins = pin_done what tables.pins }) w))
