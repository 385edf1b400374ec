use Rattle.gl_v1.proofs.BackLaws.{information_back}
use Rattle.gl_v1.proofs.laws.information_goes_back.Goals as goal

pub returns : goal.returns
returns c = information_back
