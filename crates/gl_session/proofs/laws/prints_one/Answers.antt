use Rattle.gl_check.specs.Drivers.{driver_kind, over}
use Rattle.gl_session.proofs.AloneRuns as alone
use Rattle.gl_session.proofs.laws.prints_one.Goals as goal

pub returns : goal.returns
returns g c = record {
  over = λ left. alone.prints_over (over left (driver_kind g.D.Driver.ENTRIES g.D.Driver.is_planned g.D.Driver.OwnEntries g.D.Driver.Follows));
  answers = λ left. alone.prints_one (over left (driver_kind g.D.Driver.ENTRIES g.D.Driver.is_planned g.D.Driver.OwnEntries g.D.Driver.Follows));
}
