use Rattle.gl_model.proofs.Bounds.{legal_worlds_have_bounds, worlds_stay_bounded}
use Rattle.gl_model.proofs.laws.worlds_have_bounds.Goals as goal

pub returns : goal.returns
returns g c = record { stay = worlds_stay_bounded; reached = legal_worlds_have_bounds g.K.Image.stands_for }
