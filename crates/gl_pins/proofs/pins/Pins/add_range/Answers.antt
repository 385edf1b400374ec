use Rattle.std.proofs.Common.{◌≡◌, ◌<◌, List, false, length, ap, sym, ◌∙◌, arith, vec_capacity}
use Rattle.std.specs.List.{list_any}
use Rattle.gl_pins.specs.PinRange.{overlap}
use Rattle.gl_pins.specs.declared.pins.TheConstants.{RANGES_MAX}
use Rattle.gl_pins.specs.declared.range.PinRange.{PinRange}
use Rattle.gl_pins.proofs.Table.{table_with_range}
use Rattle.gl_pins.proofs.pins.Pins.add_range.Goals as goal

pub invariant_of-self : goal.invariant_of-self
invariant_of-self c =
    let range : PinRange = record { offset = c.args.offset; pin = c.args.pin; count = c.args.count } in
    let ranges : List PinRange = c.self.inside.ranges.items in
    let apart : list_any (overlap range) ranges ≡ false = sym (ap (list_any (overlap range)) c.deref.ensures.value) ∙ c.in-None.ensures.apart in
    let same : length c.deref.result.now ≡ length ranges = ap length c.deref.ensures.value in
    let room : length ranges < RANGES_MAX = omega (arith, c.in-None.ensures.room) in
    rw c.push_within.ensures.items (table_with_range c.self.inside.ranges.items c.self.inside.held.items (vec_capacity c.self.inside.ranges) (vec_capacity c.self.inside.held) (vec_capacity c.push_within.new.items) range c.self.invariant
    c.in-None.ensures.within apart room c.push_within.ensures.capacity)
