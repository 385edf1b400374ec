use Rattle.gl_request.proofs.Numbers.{no_edges}
use Rattle.gl_request.proofs.laws.claim_has_no_edges.Goals as goal

pub returns : goal.returns
returns c = no_edges
