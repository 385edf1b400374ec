use Rattle.std.proofs.Common.{rules}
use Rattle.gl_session.proofs.Targets.{still_targets}
use Rattle.gl_session.proofs.joining.Targets.push.Goals as goal

pub invariant_of-self : goal.invariant_of-self
invariant_of-self c = still_targets c.self.inside.count c.self.inside.targets c.args.target c.self.invariant (search rules) c.requires.target
