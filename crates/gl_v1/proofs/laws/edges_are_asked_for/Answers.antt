use Rattle.gl_v1.proofs.HandleLaws.{edges_asked}
use Rattle.gl_v1.proofs.laws.edges_are_asked_for.Goals as goal

pub returns : goal.returns
returns c = edges_asked
