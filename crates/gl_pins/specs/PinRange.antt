-- One range of pins. From the kernel's document on GPIO drivers (pin ranges).
use Rattle.std.specs.Prelude.{ℕ, ◌+◌, ◌-◌, Bool, ◌&&◌, ◌||◌, nat_lt, nat_le}
use Rattle.gl_pins.specs.declared.range.PinRange.{PinRange}

-- a number is one of the `count` numbers from `first` on
abbrev pub is_among : ℕ → ℕ → ℕ → Bool
is_among first count number = nat_le first number && nat_lt number (first + count)

-- the range has this pin
abbrev pub has_pin : ℕ → PinRange → Bool
has_pin pin range = is_among range.pin range.count pin

-- the range has the line at this offset
abbrev pub has_offset : ℕ → PinRange → Bool
has_offset offset range = is_among range.offset range.count offset

-- the offset that a range maps to a pin that it has
abbrev pub offset_in : ℕ → PinRange → ℕ
offset_in pin range = range.offset + (pin - range.pin)

-- the pin that a range maps to an offset that it has
abbrev pub pin_in : ℕ → PinRange → ℕ
pin_in offset range = range.pin + (offset - range.offset)

-- the numbers of two stretches overlap
abbrev pub stretches_overlap : ℕ → ℕ → ℕ → ℕ → Bool
stretches_overlap first count other others = nat_lt first (other + others) && nat_lt other (first + count)

-- two ranges overlap in their lines or in their pins
abbrev pub overlap : PinRange → PinRange → Bool
overlap range other = stretches_overlap range.offset range.count other.offset other.count || stretches_overlap range.pin range.count other.pin other.count
