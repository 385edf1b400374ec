use Rattle.gl_model.proofs.MachineLaws.{runs_are_legal}
use Rattle.gl_model.proofs.laws.every_run_is_legal.Goals as goal

pub returns : goal.returns
returns g c = runs_are_legal g.K.Image.stands_for
