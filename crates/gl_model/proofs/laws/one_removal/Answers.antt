use Rattle.gl_model.proofs.OneRemoval as removal
use Rattle.gl_model.proofs.laws.one_removal.Goals as goal

pub returns : goal.returns
returns g c = removal.one_removal g.K.Image.stands_for
