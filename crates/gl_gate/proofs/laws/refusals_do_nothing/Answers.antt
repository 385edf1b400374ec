use Rattle.gl_gate.proofs.Grown.{refusals_do_nothing}
use Rattle.gl_gate.proofs.laws.refusals_do_nothing.Goals as goal

pub returns : goal.returns
returns g c = refusals_do_nothing g.M.Machine
