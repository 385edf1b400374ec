use Rattle.std.proofs.Common.{vec_capacity}
use Rattle.gl_pins.proofs.Table.{table_of_none}
use Rattle.gl_pins.proofs.pins.Pins.new.Goals as goal

pub invariant_of-result : goal.invariant_of-result
invariant_of-result c =
    rw (c.in_ok-ranges.ensures.items, c.in_ok-held.ensures.items) (table_of_none (vec_capacity c.in_ok-ranges.ranges) (vec_capacity c.in_ok-held.held) c.in_ok-ranges.ensures.exact c.in_ok-held.ensures.exact)
