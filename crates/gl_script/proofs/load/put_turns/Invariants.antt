-- What was put so far and the turns that are left make the whole.
use Rattle.std.proofs.Common.{◌≡◌, ◌+◌, ◌-◌, ◌^◌, ◌<◌, ◌++◌}
use Rattle.gl_script.specs.Gen.{text_of, turns}
use Rattle.gl_script.proofs.load.put_turns.Given as goal

abbrev pub invariant-loop-passed : goal.invariant-loop-passed
invariant-loop-passed l = (l.x < 2 ^ 32) × (l.out.items ++ text_of (turns (l.passed + 1) l.x (l.n - l.passed)) ≡ l.fn.out.items ++ text_of (turns 1 l.n l.n))
