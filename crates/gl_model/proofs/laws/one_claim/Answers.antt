use Rattle.gl_model.proofs.Claims.{one_claim}
use Rattle.gl_model.proofs.laws.one_claim.Goals as goal

pub returns : goal.returns
returns g c = one_claim g.K.Image.stands_for
