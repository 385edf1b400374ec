use Rattle.std.proofs.Common.{◌≡◌, drop}
use Rattle.std.specs.List.{find}
use Rattle.gl_pins.specs.PinRange.{has_pin}
use Rattle.gl_pins.proofs.pins.range_of_pin.Given as goal

-- no range so far has it
abbrev pub invariant-loop-range : goal.invariant-loop-range
invariant-loop-range l = find (has_pin l.pin) (drop l.range-index l.ranges) ≡ find (has_pin l.pin) l.ranges
