use Rattle.gl_talk.proofs.TalkPrints.{statements_print_lines, talks_print_lines}
use Rattle.gl_talk.proofs.laws.talks_print_lines.Goals as goal

pub returns-clause-statements : goal.returns-clause-statements
returns-clause-statements c = statements_print_lines

pub returns-clause-whole : goal.returns-clause-whole
returns-clause-whole c = talks_print_lines
