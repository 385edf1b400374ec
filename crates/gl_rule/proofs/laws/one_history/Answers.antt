use Rattle.gl_rule.proofs.Consequences.{one_history}
use Rattle.gl_rule.proofs.laws.one_history.Goals as goal

pub returns : goal.returns
returns g c = one_history g.M.Machine
