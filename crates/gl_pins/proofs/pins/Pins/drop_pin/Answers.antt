use Rattle.std.proofs.Common.{vec_capacity}
use Rattle.gl_pins.proofs.Table.{table_without_held}
use Rattle.gl_pins.proofs.pins.Pins.drop_pin.Goals as goal

pub invariant_of-self : goal.invariant_of-self
invariant_of-self c =
    rw (c.remove_pin.ensures.held, c.remove_pin.ensures.capacity) (table_without_held c.self.inside.ranges.items c.self.inside.held.items (vec_capacity c.self.inside.ranges) (vec_capacity c.self.inside.held) c.args.pin c.self.invariant)
