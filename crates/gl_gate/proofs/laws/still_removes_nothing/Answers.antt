use Rattle.gl_gate.proofs.Grown.{still_removes_nothing}
use Rattle.gl_gate.proofs.laws.still_removes_nothing.Goals as goal

pub returns : goal.returns
returns g c = still_removes_nothing g.M.Machine
