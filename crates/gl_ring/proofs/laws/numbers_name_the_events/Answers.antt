use Rattle.gl_ring.proofs.Naming.{numbers_name}
use Rattle.gl_ring.proofs.laws.numbers_name_the_events.Goals as goal

pub returns : goal.returns
returns c capacity turns d = numbers_name capacity turns d
