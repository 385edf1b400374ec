use Rattle.gl_gate.proofs.Grown.{moves_do_nothing}
use Rattle.gl_gate.proofs.laws.moves_do_nothing.Goals as goal

pub returns : goal.returns
returns g c = moves_do_nothing g.M.Machine
