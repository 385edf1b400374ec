use Rattle.gl_gate.proofs.Grown.{grown_has_its_own}
use Rattle.gl_gate.proofs.laws.grown_has_its_own.Goals as goal

pub returns : goal.returns
returns g c = grown_has_its_own g.M.Machine
