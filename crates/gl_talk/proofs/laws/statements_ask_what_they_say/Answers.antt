use Rattle.gl_talk.proofs.TypedActions.{statements_ask_what_they_say}
use Rattle.gl_talk.proofs.laws.statements_ask_what_they_say.Goals as goal

pub returns : goal.returns
returns c = statements_ask_what_they_say
