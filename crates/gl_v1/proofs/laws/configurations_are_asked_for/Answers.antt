use Rattle.gl_v1.proofs.HandleLaws.{configured_anew}
use Rattle.gl_v1.proofs.laws.configurations_are_asked_for.Goals as goal

pub returns : goal.returns
returns c = configured_anew
