use Rattle.gl_script.specs.Columns.{columns}
use Rattle.gl_script.proofs.Forming.{statements_are_formed}
use Rattle.gl_script.proofs.Saying.{said_is_spelled}
use Rattle.gl_script.proofs.section.Statement.said.Goals as goal

pub returns-clause-spelled : goal.returns-clause-spelled
returns-clause-spelled c = said_is_spelled (columns c.args.self.now.line.now) c.args.self.now.said c.args.self.now.read

pub returns-clause-formed : goal.returns-clause-formed
returns-clause-formed c = statements_are_formed (columns c.args.self.now.line.now) c.args.self.now.said c.args.self.now.read
