use Rattle.gl_model.proofs.Holds.{one_holder}
use Rattle.gl_model.proofs.laws.one_holder.Goals as goal

pub returns : goal.returns
returns g c = one_holder g.K.Image.stands_for
