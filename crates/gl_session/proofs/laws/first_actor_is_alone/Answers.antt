use Rattle.gl_session.proofs.laws.first_actor_is_alone.Goals as goal
use Rattle.gl_session.proofs.Alone as alone

pub returns : goal.returns
returns c = record { history = alone.first_actor_is_alone; seen = alone.first_actor_sees_itself }
