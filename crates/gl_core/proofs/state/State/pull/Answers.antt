use Rattle.gl_core.proofs.HeldLines.{lines_known}
use Rattle.gl_core.proofs.state.State.pull.Goals as goal

pub pull_line-requires-clause-lines : goal.pull_line-requires-clause-lines
pull_line-requires-clause-lines c = lines_known c.args.self.now c.requires
