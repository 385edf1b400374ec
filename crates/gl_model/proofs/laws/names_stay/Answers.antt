use Rattle.gl_model.proofs.Names.{names_stay}
use Rattle.gl_model.proofs.laws.names_stay.Goals as goal

pub returns : goal.returns
returns c = names_stay
