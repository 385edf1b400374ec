use Rattle.std.proofs.Common.{◌≡◌}
use Rattle.gl_rule.specs.Turn.{owes}
use Rattle.gl_gate.specs.Values.{IsPassOf}
use Rattle.gl_gate.specs.Calls.{SamePass}
use Rattle.gl_gate_tests.specs.contracts.adder.AdderMachine.TheImpl.{ghosts}
use Rattle.gl_gate_tests.proofs.adding.add_often.Given as goal

abbrev pub invariant-loop : goal.invariant-loop
invariant-loop g l = IsPassOf l.gate l.pass × SamePass l.initial.pass.view l.pass.view × (owes ghosts l.pass.view ≡ 0)
