use Rattle.std.proofs.Common.{◌≡◌}
use Rattle.gl_rule.specs.Views.{with_count}
use Rattle.gl_gate.specs.Values.{knowing}
use Rattle.gl_gate.proofs.gate.Gate.drain.Given as goal

-- as long as it waits, the pass only counted those who are inside
abbrev pub invariant-loop : goal.invariant-loop
invariant-loop g l = l.pass ≡ knowing l.initial.pass (with_count l.initial.pass.view l.pass.view.counted)
