use Rattle.gl_session.proofs.LawfulRuns.{lawful_is_yes, yes_is_lawful}
use Rattle.gl_session.proofs.laws.lawful_runs_are_judged_so.Goals as goal

pub returns-clause-yes : goal.returns-clause-yes
returns-clause-yes c = yes_is_lawful c.misfit_is_none_for_many.ensures c.histories_are_read_back.ensures.back c.histories_are_read_back.ensures.alone

pub returns-clause-lawful : goal.returns-clause-lawful
returns-clause-lawful c = lawful_is_yes c.misfit_is_none_for_many.ensures c.histories_are_read_back.ensures.back c.histories_are_read_back.ensures.alone
