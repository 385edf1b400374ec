use Rattle.std.proofs.Common.{◌≡◌, drop, map}
use Rattle.gl_args.specs.Items.{item_in}
use Rattle.gl_args.specs.LookUps.{has}
use Rattle.gl_args.proofs.look_ups.has.Given as goal

abbrev pub invariant-loop-item : goal.invariant-loop-item
invariant-loop-item l = has l.option (map item_in (drop l.item-index l.items)) ≡ has l.option (map item_in l.items)
