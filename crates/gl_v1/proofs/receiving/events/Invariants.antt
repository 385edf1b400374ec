use Rattle.std.proofs.Common.{◌≡◌, ◌-◌, length}
use Rattle.gl_v1.specs.Back.{events_back, events_from, events_in}
use Rattle.gl_v1.proofs.receiving.events.Given as goal

-- what is left to be written comes to all of them
abbrev pub invariant-loop-i : goal.invariant-loop-i
invariant-loop-i l = (events_from l.i (events_in l.got - l.i) l.got l.out ≡ events_back l.got l.fn.out) × (length l.out ≡ length l.fn.out)
