use Rattle.gl_rule.proofs.Consequences.{inside_is_not_gone}
use Rattle.gl_rule.proofs.laws.inside_is_not_gone.Goals as goal

pub returns : goal.returns
returns g c = inside_is_not_gone g.M.Machine
