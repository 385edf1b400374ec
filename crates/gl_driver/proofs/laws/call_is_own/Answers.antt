use Rattle.gl_driver.proofs.Backs.{call_is_own}
use Rattle.gl_driver.proofs.laws.call_is_own.Goals as goal

pub returns : goal.returns
returns g c = call_is_own g.M.Machine
