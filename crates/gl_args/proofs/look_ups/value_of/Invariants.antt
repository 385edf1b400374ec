use Rattle.std.proofs.Common.{◌≡◌, drop, map}
use Rattle.gl_args.specs.Items.{item_in}
use Rattle.gl_args.specs.LookUps.{value_of}
use Rattle.gl_args.proofs.look_ups.value_of.Given as goal

abbrev pub invariant-loop-item : goal.invariant-loop-item
invariant-loop-item l = value_of l.option (map item_in (drop l.item-index l.items)) ≡ value_of l.option (map item_in l.items)
