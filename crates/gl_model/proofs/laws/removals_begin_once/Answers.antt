use Rattle.gl_model.proofs.BeginsOnce.{begins_once}
use Rattle.gl_model.proofs.laws.removals_begin_once.Goals as goal

pub returns : goal.returns
returns c = begins_once
