use Rattle.std.proofs.Common.{◌≡◌, ◌≤◌, length, take}
use Rattle.gl_check.specs.Joining.{targets_in}
use Rattle.gl_session.proofs.joining.Targets.in_slots.Given as goal

-- those in the first slots so far
abbrev pub invariant-loop-n : goal.invariant-loop-n
invariant-loop-n l = (l.targets ≡ targets_in (take l.n (take l.count l.slots)) l.rows) × (length l.targets ≤ l.n)
