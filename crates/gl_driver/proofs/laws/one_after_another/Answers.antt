use Rattle.gl_driver.proofs.Backs.{one_after_another}
use Rattle.gl_driver.proofs.laws.one_after_another.Goals as goal

pub returns : goal.returns
returns g c = one_after_another g.M.Machine
