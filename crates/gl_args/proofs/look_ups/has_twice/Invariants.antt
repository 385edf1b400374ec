use Rattle.std.proofs.Common.{◌≡◌, map, length}
use Rattle.gl_args.specs.Items.{item_in}
use Rattle.gl_args.specs.LookUps.{has_twice}
use Rattle.gl_args.proofs.look_ups.has_twice.Given as goal

abbrev pub invariant-loop-rest : goal.invariant-loop-rest
invariant-loop-rest l = has_twice (map item_in l.rest) ≡ has_twice (map item_in l.items)

abbrev pub decreases-loop-rest : goal.decreases-loop-rest
decreases-loop-rest l = length l.rest
