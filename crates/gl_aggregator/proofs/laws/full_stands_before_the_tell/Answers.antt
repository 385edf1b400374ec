use Rattle.std.proofs.Common.{None}
use Rattle.gl_aggregator.proofs.Planned.{follows_by_more, full_stands_before}
use Rattle.gl_aggregator.proofs.laws.full_stands_before_the_tell.Goals as goal

pub returns-clause-follows : goal.returns-clause-follows
returns-clause-follows g c = follows_by_more (g.D.Driver.Follows None)

pub returns-clause-full : goal.returns-clause-full
returns-clause-full g c = full_stands_before (g.D.Driver.Follows None)
