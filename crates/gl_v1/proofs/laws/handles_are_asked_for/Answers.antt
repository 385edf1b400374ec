use Rattle.gl_v1.proofs.HandleLaws.{handle_asked}
use Rattle.gl_v1.proofs.laws.handles_are_asked_for.Goals as goal

pub returns : goal.returns
returns c = handle_asked
