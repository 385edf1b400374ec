use Rattle.gl_check.specs.Drivers.{driver_kind, over}
use Rattle.gl_session.proofs.Closings as closings
use Rattle.gl_session.proofs.laws.actors_close_by_number.Goals as goal

pub returns : goal.returns
returns g c = record {
  several = λ left. closings.actors_close_by_number (over left (driver_kind g.D.Driver.ENTRIES g.D.Driver.is_planned g.D.Driver.OwnEntries g.D.Driver.Follows));
  one_actor = λ left. closings.one_actor_closes_by_number (over left (driver_kind g.D.Driver.ENTRIES g.D.Driver.is_planned g.D.Driver.OwnEntries g.D.Driver.Follows));
}
