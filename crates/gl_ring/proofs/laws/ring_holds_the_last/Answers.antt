use Rattle.gl_ring.proofs.Lasting.{pushed-waiting, left-waiting, next_within}
use Rattle.gl_ring.proofs.laws.ring_holds_the_last.Goals as goal

pub returns : goal.returns
returns c = record { push = pushed-waiting; read = left-waiting; within = next_within }
