use Rattle.gl_check.proofs.Fits.{judged}
use Rattle.gl_check.proofs.laws.misfit_is_none_for_many.Goals as goal

pub returns : goal.returns
returns c = judged
