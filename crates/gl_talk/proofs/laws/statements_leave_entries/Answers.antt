use Rattle.gl_talk.proofs.TalkFiles.{statements_leave_entries, end_makes_at_most}
use Rattle.gl_talk.proofs.laws.statements_leave_entries.Goals as goal

pub returns-clause-statements : goal.returns-clause-statements
returns-clause-statements c = statements_leave_entries

pub returns-clause-end : goal.returns-clause-end
returns-clause-end c = end_makes_at_most
