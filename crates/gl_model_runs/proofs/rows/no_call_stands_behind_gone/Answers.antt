use Rattle.gl_model_runs.proofs.TwoActors.{illegal_behind_gone, legal_until_gone}
use Rattle.gl_model_runs.proofs.rows.no_call_stands_behind_gone.Goals as goal

pub returns : goal.returns
returns g c = record { before = legal_until_gone g.K.Image.stands_for; whole = illegal_behind_gone g.K.Image.stands_for }
