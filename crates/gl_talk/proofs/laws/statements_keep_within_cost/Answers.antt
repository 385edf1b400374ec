use Rattle.gl_talk.proofs.StatementCosts.{statements_keep_within_cost}
use Rattle.gl_talk.proofs.laws.statements_keep_within_cost.Goals as goal

pub returns : goal.returns
returns c = statements_keep_within_cost
