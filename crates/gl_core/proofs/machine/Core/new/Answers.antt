use Rattle.gl_core.proofs.Reached.{opening_reached}
use Rattle.gl_core.proofs.machine.Core.new.Goals as goal

pub invariant_of-result : goal.invariant_of-result
invariant_of-result c = opening_reached c.in_ok-state.state c.in_ok-state.ensures.ok
