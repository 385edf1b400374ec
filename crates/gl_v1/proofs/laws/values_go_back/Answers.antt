use Rattle.gl_v1.proofs.BackLaws.{values_back}
use Rattle.gl_v1.proofs.laws.values_go_back.Goals as goal

pub returns : goal.returns
returns c = values_back
