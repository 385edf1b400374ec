use Rattle.gl_gate.proofs.Grown.{grows_on}
use Rattle.gl_gate.proofs.laws.grows_on.Goals as goal

pub returns : goal.returns
returns g c = grows_on g.M.Machine
