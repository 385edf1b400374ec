use Rattle.gl_rule.proofs.Consequences.{closed_is_leaving}
use Rattle.gl_rule.proofs.laws.closed_is_leaving.Goals as goal

pub returns : goal.returns
returns g c = closed_is_leaving g.M.Machine
