use Rattle.gl_talk.proofs.InARow.{come_in_parts, are_statements_and_the_end}
use Rattle.gl_talk.proofs.laws.talks_are_statements_and_the_end.Goals as goal

pub returns-clause-parts : goal.returns-clause-parts
returns-clause-parts c = come_in_parts

pub returns-clause-end : goal.returns-clause-end
returns-clause-end c = are_statements_and_the_end
