use Rattle.std.proofs.Common.{refl}
use Rattle.gl_driver.proofs.Backs.{owes_nowhere}
use Rattle.gl_gate_tests.specs.contracts.adder.AdderMachine.TheImpl.{ghosts}
use Rattle.gl_gate_tests.proofs.asking.ask.Goals as goal

pub call-answer-requires-clause-asked_here : goal.call-answer-requires-clause-asked_here
call-answer-requires-clause-asked_here g c = owes_nowhere ghosts c.enter.new.pass.view 0 (λ call. refl)
