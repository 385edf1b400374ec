use Rattle.gl_model.proofs.EndingRemovals as ending
use Rattle.gl_model.proofs.laws.last_calls_are_done.Goals as goal

pub returns : goal.returns
returns g c = ending.last_calls_are_done g.K.Image.stands_for
