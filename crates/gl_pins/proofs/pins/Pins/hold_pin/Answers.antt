use Rattle.std.proofs.Common.{◌≡◌, false, ap, ◌∙◌, vec_capacity}
use Rattle.std.specs.List.{find}
use Rattle.gl_pins.specs.PinRange.{has_pin}
use Rattle.gl_pins.specs.Pins.{IsMapped, holds_pin}
use Rattle.gl_pins.proofs.Table.{held_room, mapped_by, table_with_held}
use Rattle.gl_pins.proofs.pins.Pins.hold_pin.Goals as goal

pub push_within-requires : goal.push_within-requires
push_within-requires c =
    let new : holds_pin c.self.inside.held.items c.args.pin ≡ false = cc in
    let mapped : IsMapped c.self.inside.ranges.items c.args.pin = mapped_by c.self.inside.ranges.items c.args.pin c.in-Some.field-0 (c.in-Some.ensures.found ∙ ap (find (has_pin c.args.pin)) c.deref.ensures.value) in
    held_room c.self.inside.ranges.items c.self.inside.held.items (vec_capacity c.self.inside.ranges) (vec_capacity c.self.inside.held) c.args.pin c.self.invariant mapped new

pub invariant_of-self : goal.invariant_of-self
invariant_of-self c =
    let new : holds_pin c.self.inside.held.items c.args.pin ≡ false = cc in
    let mapped : IsMapped c.self.inside.ranges.items c.args.pin = mapped_by c.self.inside.ranges.items c.args.pin c.in-Some.field-0 (c.in-Some.ensures.found ∙ ap (find (has_pin c.args.pin)) c.deref.ensures.value) in
    rw c.push_within.ensures.items (table_with_held c.self.inside.ranges.items c.self.inside.held.items (vec_capacity c.self.inside.ranges) (vec_capacity c.self.inside.held) (vec_capacity c.push_within.new.items) c.args.pin c.self.invariant mapped new c.push_within.ensures.capacity)
