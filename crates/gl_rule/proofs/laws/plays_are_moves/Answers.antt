use Rattle.gl_rule.proofs.Consequences.{plays_are_moves}
use Rattle.gl_rule.proofs.laws.plays_are_moves.Goals as goal

pub returns : goal.returns
returns g c = plays_are_moves g.M.Machine
