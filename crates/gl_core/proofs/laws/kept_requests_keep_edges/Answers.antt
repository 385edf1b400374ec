use Rattle.gl_core.proofs.KeptEdges as edges
use Rattle.gl_core.proofs.laws.kept_requests_keep_edges.Goals as goal

pub returns : goal.returns
returns c = edges.kept_requests_keep_edges
