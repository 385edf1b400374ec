use Rattle.gl_check.specs.Drivers.{driver_kind, over}
use Rattle.gl_check.proofs.Settled as settled
use Rattle.gl_check.proofs.laws.given_one_list.Goals as goal

pub returns : goal.returns
returns g c = λ left. settled.given_one_list (over left (driver_kind g.D.Driver.ENTRIES g.D.Driver.is_planned g.D.Driver.OwnEntries g.D.Driver.Follows))
