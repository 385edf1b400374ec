use Rattle.gl_check.specs.Drivers.{driver_kind, over}
use Rattle.gl_session.proofs.Within as cost
use Rattle.gl_session.proofs.laws.sessions_keep_within_cost.Goals as goal

pub returns : goal.returns
returns g c = record {
  parts = cost.sessions_cost_their_parts;
  whole = λ left. cost.sessions_keep_within_cost (over left (driver_kind g.D.Driver.ENTRIES g.D.Driver.is_planned g.D.Driver.OwnEntries g.D.Driver.Follows));
  before_a_call = λ left. cost.calls_have_room (over left (driver_kind g.D.Driver.ENTRIES g.D.Driver.is_planned g.D.Driver.OwnEntries g.D.Driver.Follows));
}
