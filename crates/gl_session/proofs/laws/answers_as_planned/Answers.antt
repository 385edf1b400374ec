use Rattle.gl_check.specs.Drivers.{driver_kind, over}
use Rattle.gl_session.proofs.AloneRuns as alone
use Rattle.gl_session.proofs.laws.answers_as_planned.Goals as goal

pub returns : goal.returns
returns g c = λ left. alone.answers_as_planned (over left (driver_kind g.D.Driver.ENTRIES g.D.Driver.is_planned g.D.Driver.OwnEntries g.D.Driver.Follows))
