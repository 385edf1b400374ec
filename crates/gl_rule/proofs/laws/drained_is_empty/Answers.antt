use Rattle.gl_rule.proofs.Consequences.{drained_is_empty}
use Rattle.gl_rule.proofs.laws.drained_is_empty.Goals as goal

pub returns : goal.returns
returns g c = drained_is_empty g.M.Machine
