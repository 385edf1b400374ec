use Rattle.gl_script.proofs.Forming.{statements_are_formed}
use Rattle.gl_script.proofs.Saying.{said_is_spelled, statements_are_said, versions_are_said}
use Rattle.gl_script.proofs.laws.statements_are_said.Goals as goal

pub returns-clause-faultless : goal.returns-clause-faultless
returns-clause-faultless c = statements_are_said

pub returns-clause-versions : goal.returns-clause-versions
returns-clause-versions c = versions_are_said

pub returns-clause-spelled : goal.returns-clause-spelled
returns-clause-spelled c = said_is_spelled

pub returns-clause-formed : goal.returns-clause-formed
returns-clause-formed c = statements_are_formed
