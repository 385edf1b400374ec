use Rattle.std.proofs.Common.{None}
use Rattle.gl_aggregator.proofs.Planned.{planned_on_maps}
use Rattle.gl_aggregator.proofs.laws.planned_on_maps.Goals as goal

pub returns : goal.returns
returns g c = planned_on_maps g.D.Driver.is_planned (g.D.Driver.Follows None) (g.met.D.Driver g.world.𝓛 g.world.𝓜 g.world.𝓡 ((λ s x. x), (λ x. x), (λ x. x), λ x. x)).follows_plan
