use Rattle.gl_model.proofs.Refusing as refusing
use Rattle.gl_model.proofs.answers.refusals_leave_all.Goals as goal

pub returns : goal.returns
returns c = refusing.refusals_leave_all
