use Rattle.std.proofs.Common.{None}
use Rattle.gl_aggregator.proofs.Settled as settled
use Rattle.gl_aggregator.proofs.laws.does_one_thing.Goals as goal

pub returns : goal.returns
returns g c = settled.does_one_thing g.D.Driver.is_planned (g.D.Driver.Follows None) (g.met.D.Driver g.world.𝓛 g.world.𝓜 g.world.𝓡 ((λ s x. x), (λ x. x), (λ x. x), λ x. x)).follows_plan
