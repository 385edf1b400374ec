use Rattle.gl_talk.proofs.StatementCosts.{talks_keep_within_cost}
use Rattle.gl_talk.proofs.laws.talks_keep_within_cost.Goals as goal

pub returns : goal.returns
returns c = talks_keep_within_cost
