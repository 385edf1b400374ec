use Rattle.gl_gate.proofs.Grown.{acts_are_deeds}
use Rattle.gl_gate.proofs.laws.acts_are_deeds.Goals as goal

pub returns : goal.returns
returns g c = acts_are_deeds g.M.Machine
