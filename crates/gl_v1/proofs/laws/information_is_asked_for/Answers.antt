use Rattle.gl_v1.proofs.BackLaws.{information_asked}
use Rattle.gl_v1.proofs.laws.information_is_asked_for.Goals as goal

pub returns : goal.returns
returns c = information_asked
