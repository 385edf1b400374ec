use Rattle.std.proofs.Common.{◌≡◌, ◌≤◌, length, drop, None}
use Rattle.gl_args.specs.Cuts.{divided}
use Rattle.gl_args.proofs.cuts.divide.Given as goal

-- the byte isn't among those after
abbrev pub invariant-loop-end : goal.invariant-loop-end
invariant-loop-end l = (divided l.byte (drop l.end l.word) ≡ None) × (l.end ≤ length l.word)

abbrev pub decreases-loop-end : goal.decreases-loop-end
decreases-loop-end l = l.end
