use Rattle.gl_model.proofs.Names.{legal_worlds_have_names}
use Rattle.gl_model.proofs.laws.legal_worlds_have_names.Goals as goal

pub returns : goal.returns
returns g c = legal_worlds_have_names g.K.Image.stands_for
