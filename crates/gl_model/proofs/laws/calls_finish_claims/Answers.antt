use Rattle.gl_model.proofs.FinishingCalls as finishing
use Rattle.gl_model.proofs.laws.calls_finish_claims.Goals as goal

pub returns : goal.returns
returns g c = finishing.calls_finish_claims g.K.Image.stands_for
