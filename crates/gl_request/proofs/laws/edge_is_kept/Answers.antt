use Rattle.gl_request.proofs.Numbers.{edge_kept, edge_numbered}
use Rattle.gl_request.proofs.laws.edge_is_kept.Goals as goal

pub returns : goal.returns
returns c = record { event = edge_numbered; row = edge_kept }
