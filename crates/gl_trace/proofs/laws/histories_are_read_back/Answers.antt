use Rattle.gl_trace.proofs.Histories.{histories_alone, histories_back}
use Rattle.gl_trace.proofs.laws.histories_are_read_back.Goals as goal

pub returns-clause-back : goal.returns-clause-back
returns-clause-back c = histories_back

pub returns-clause-alone : goal.returns-clause-alone
returns-clause-alone c = histories_alone
