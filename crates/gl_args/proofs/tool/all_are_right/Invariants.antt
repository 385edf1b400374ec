use Rattle.std.proofs.Common.{◌≡◌, drop, map}
use Rattle.std.specs.List.{list_all}
use Rattle.gl_args.specs.Items.{item_in}
use Rattle.gl_args.specs.Tools.{item_is_right}
use Rattle.gl_args.proofs.tool.all_are_right.Given as goal

abbrev pub invariant-loop-item : goal.invariant-loop-item
invariant-loop-item l = list_all (item_is_right l.name) (map item_in (drop l.item-index l.items)) ≡ list_all (item_is_right l.name) (map item_in l.items)
