use Rattle.gl_model_runs.proofs.TwoActors.{legal_before, legal_behind}
use Rattle.gl_model_runs.proofs.rows.two_actors_are_legal.Goals as goal

pub returns : goal.returns
returns g c = record { before = legal_before g.K.Image.stands_for; behind = legal_behind g.K.Image.stands_for }
