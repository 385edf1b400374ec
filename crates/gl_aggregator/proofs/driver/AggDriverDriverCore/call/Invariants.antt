use Rattle.std.proofs.Common.{◌≡◌, None}
use Rattle.gl_core.specs.Device.{core}
use Rattle.gl_gate.specs.Values.{IsPassOf}
use Rattle.gl_aggregator.specs.Aggregating.{FollowsBehind}
use Rattle.gl_aggregator.specs.Calling.{Calling}
use Rattle.gl_aggregator.proofs.driver.AggDriverDriverCore.call.Given as goal

abbrev pub invariant-loop-route : goal.invariant-loop-route
invariant-loop-route g l = IsPassOf l.gate l.pass
    × (l.port-inside.tally ≡ l.fn.port.tally) × (l.port-inside.maps ≡ l.fn.port.maps)
    × Calling core (FollowsBehind (g.D.Driver.Follows None) l.fn.pass.view.room) l.op l.rows l.route-index (g.D.Port.Port.told l.fn.port.inner) (g.D.Port.Port.told l.port-inside.inner) l.fn.pass.view l.pass.view l.bits
