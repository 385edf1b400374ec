use Rattle.gl_check.specs.Drivers.{driver_kind, over}
use Rattle.gl_session.proofs.LawfulRuns as lawful
use Rattle.gl_session.proofs.laws.runs_are_lawful.Goals as goal

pub returns : goal.returns
returns g c = λ left. lawful.runs_are_lawful (over left (driver_kind g.D.Driver.ENTRIES g.D.Driver.is_planned g.D.Driver.OwnEntries g.D.Driver.Follows))
