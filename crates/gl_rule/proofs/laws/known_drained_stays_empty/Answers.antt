use Rattle.gl_rule.proofs.Consequences.{known_drained_stays_empty}
use Rattle.gl_rule.proofs.laws.known_drained_stays_empty.Goals as goal

pub returns : goal.returns
returns g c = known_drained_stays_empty g.M.Machine
