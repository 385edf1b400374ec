use Rattle.gl_v1.proofs.HandleLaws.{values_asked, values_set}
use Rattle.gl_v1.proofs.laws.values_are_asked_for.Goals as goal

pub returns : goal.returns
returns c = record { get = values_asked; set = values_set }
