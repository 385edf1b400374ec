use Rattle.gl_model.proofs.IoCauses as causes
use Rattle.gl_model.proofs.answers.io_has_cause.Goals as goal

pub returns : goal.returns
returns c = causes.io_has_cause
