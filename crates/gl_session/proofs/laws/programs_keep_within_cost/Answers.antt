use Rattle.gl_check.specs.Drivers.{driver_kind}
use Rattle.gl_session.proofs.Within as cost
use Rattle.gl_session.proofs.laws.programs_keep_within_cost.Goals as goal

pub returns : goal.returns
returns g c = record {
  so_far = cost.entries_within_cost (driver_kind g.D.Driver.ENTRIES g.D.Driver.is_planned g.D.Driver.OwnEntries g.D.Driver.Follows);
  before_a_call = cost.calls_come_below_cost (driver_kind g.D.Driver.ENTRIES g.D.Driver.is_planned g.D.Driver.OwnEntries g.D.Driver.Follows);
  plainly = cost.entries_within_plain_cost (driver_kind g.D.Driver.ENTRIES g.D.Driver.is_planned g.D.Driver.OwnEntries g.D.Driver.Follows);
}
