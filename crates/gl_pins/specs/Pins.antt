-- The pins of a chip. The refusals and their order are this project's choice.
use Rattle.std.specs.Prelude.{◌≡◌, ℕ, ◌+◌, ◌≤◌, Bool, true, false, not, ◌==◌, nat_eq, nat_lt, nat_le, is_none, is_some, List, [], ◌∷◌, ◌++◌, length, Option, Some, None}
use Rattle.std.specs.List.{find, list_any, IsDistinct}
use Rattle.std.specs.Option.{option_map}
use Rattle.gl_base.specs.Refusals.{when, first_of}
use Rattle.gl_base.specs.Rows.{Each, without_first}
use Rattle.gl_base.specs.declared.limits.TheConstants.{LINES_MAX}
use Rattle.gl_base.specs.declared.errno.Errno.{Errno}
use Rattle.gl_base.specs.declared.errno.Errno.TheVariants.{Inval, Busy, NoSpc}
use Rattle.gl_pins.specs.declared.pins.TheConstants.{PINS_MAX, RANGES_MAX}
use Rattle.gl_pins.specs.declared.range.PinRange.{PinRange}
use Rattle.gl_pins.specs.PinRange.{has_pin, has_offset, offset_in, pin_in, overlap}

-- the ranges, in the order of their making, and the pins that are held for another function, in the order in which they were taken
pub record PinTable : Type 0 where
  pub ranges : List PinRange
  pub held : List ℕ

-- no range and no held pin
abbrev pub no_pins : PinTable
no_pins = record { ranges = []; held = [] }

-- the offset of the line that a range maps to this pin
abbrev pub line_of : PinTable → ℕ → Option ℕ
line_of pins pin = option_map (offset_in pin) (find (has_pin pin) pins.ranges)

-- the pin that a range maps to the line at this offset
abbrev pub pin_of : PinTable → ℕ → Option ℕ
pin_of pins offset = option_map (pin_in offset) (find (has_offset offset) pins.ranges)

-- a pin is held for another function
abbrev pub holds_pin : List ℕ → ℕ → Bool
holds_pin held pin = list_any (nat_eq pin) held

-- a pin that may not be there is held
abbrev pub holds_some_pin : List ℕ → Option ℕ → Bool
holds_some_pin held None = false
holds_some_pin held (Some pin) = holds_pin held pin

-- the pin of the line at this offset is held for another function
abbrev pub is_held : PinTable → ℕ → Bool
is_held pins offset = holds_some_pin pins.held (pin_of pins offset)

-- why a new range is refused on a chip of so many lines, first case first
abbrev pub range_refusal : PinTable → ℕ → PinRange → Option Errno
range_refusal pins lines range = first_of
    (when (range.count == 0) Inval
    ∷ when (nat_lt lines (range.offset + range.count)) Inval
    ∷ when (nat_lt PINS_MAX (range.pin + range.count)) Inval
    ∷ when (list_any (overlap range) pins.ranges) Inval
    ∷ when (nat_le RANGES_MAX (length pins.ranges)) NoSpc
    ∷ [])

-- the pins with one range more
abbrev pub with_range : PinRange → PinTable → PinTable
with_range range pins = record pins { ranges = pins.ranges ++ range ∷ [] }

-- why the hold of a pin is refused, first case first; `line_free` tells of the line of the pin
abbrev pub hold_refusal : PinTable → ℕ → Bool → Option Errno
hold_refusal pins pin line_free = first_of
    (when (is_none (line_of pins pin)) Inval
    ∷ when (holds_pin pins.held pin) Busy
    ∷ when (not line_free) Busy
    ∷ [])

-- the pins with one more held
abbrev pub with_held : ℕ → PinTable → PinTable
with_held pin pins = record pins { held = pins.held ++ pin ∷ [] }

-- why a drop of a pin is refused
abbrev pub drop_refusal : PinTable → ℕ → Option Errno
drop_refusal pins pin = when (not (holds_pin pins.held pin)) Inval

-- the pins with one held no more
abbrev pub without_held : ℕ → PinTable → PinTable
without_held pin pins = record pins { held = without_first (nat_eq pin) pins.held }

-- a range is within the lines that a chip can have, and within the pins
abbrev pub IsWithin : PinRange → Type 0
IsWithin range = (range.offset + range.count ≤ LINES_MAX) × (range.pin + range.count ≤ PINS_MAX)

-- no range overlaps an earlier one
abbrev pub AreApart : List PinRange → Type 0
AreApart [] = Unit {0}
AreApart (range ∷ ranges) = Each (λ later. overlap later range ≡ false) ranges × AreApart ranges

-- a range has the pin
abbrev pub IsMapped : List PinRange → ℕ → Type 0
IsMapped ranges pin = is_some (find (has_pin pin) ranges) ≡ true

-- what is kept true of the ranges and the held pins, and of the room for them: each held pin is that of a line of its own
pub record IsPinTable (ranges : List PinRange) (held : List ℕ) (range_room held_room : ℕ) : Type 0 where
  pub within : Each IsWithin ranges
  pub few_ranges : length ranges ≤ RANGES_MAX
  pub all_ranges : range_room ≡ RANGES_MAX
  pub apart : AreApart ranges
  pub mapped : Each (IsMapped ranges) held
  pub distinct : IsDistinct nat_eq held
  pub all_lines : held_room ≡ LINES_MAX
