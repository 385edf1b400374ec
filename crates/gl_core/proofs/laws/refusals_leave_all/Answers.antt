use Rattle.gl_core.proofs.Refusing.{refusals_leave_the_core}
use Rattle.gl_core.proofs.laws.refusals_leave_all.Goals as goal

pub returns-clause-core : goal.returns-clause-core
returns-clause-core c = refusals_leave_the_core
