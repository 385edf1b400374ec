use Rattle.gl_check.specs.Drivers.{driver_kind, over}
use Rattle.gl_session.proofs.Together as together
use Rattle.gl_session.proofs.laws.actors_at_work_have_room.Goals as goal

pub returns : goal.returns
returns g c = λ left. together.actors_at_work_have_room (over left (driver_kind g.D.Driver.ENTRIES g.D.Driver.is_planned g.D.Driver.OwnEntries g.D.Driver.Follows))
