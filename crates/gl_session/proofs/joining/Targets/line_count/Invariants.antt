use Rattle.std.proofs.Common.{◌≡◌, ◌*◌, ◌≤◌, take}
use Rattle.gl_check.specs.Joining.{line_count}
use Rattle.gl_session.proofs.joining.Targets.line_count.Given as goal

-- those of the first ones so far
abbrev pub invariant-loop-n : goal.invariant-loop-n
invariant-loop-n l = (l.count ≡ line_count (take l.n l.self-inside.targets)) × (l.count ≤ 64 * l.n) × (l.n-end ≡ l.self-inside.count) × (l.n ≤ l.n-end)
