use Rattle.gl_check.specs.Drivers.{driver_kind, over}
use Rattle.gl_session.proofs.ManyFollows as followed
use Rattle.gl_session.proofs.laws.all_played_came_to_many.Goals as goal

pub returns : goal.returns
returns g c = λ left. followed.came_to_many (over left (driver_kind g.D.Driver.ENTRIES g.D.Driver.is_planned g.D.Driver.OwnEntries g.D.Driver.Follows))
