use Rattle.gl_ring.proofs.Edges.{events_of-more}
use Rattle.gl_request.proofs.laws.events_are_the_edges.Goals as goal

pub returns : goal.returns
returns c = events_of-more
