use Rattle.gl_model_runs.proofs.TwoActorsCalls.{first_before, second_before, first_behind, second_behind, second_so_far}
use Rattle.gl_model_runs.proofs.rows.two_actors_call_the_device.Goals as goal

pub returns : goal.returns
returns g c = record { first_before = first_before g.K.Image.stands_for; second_before = second_before g.K.Image.stands_for; first_behind = first_behind g.K.Image.stands_for; second_behind = second_behind g.K.Image.stands_for; second_so_far = second_so_far g.K.Image.stands_for }
