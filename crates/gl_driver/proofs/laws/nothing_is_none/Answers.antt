use Rattle.gl_driver.proofs.Backs.{nothing_is_none}
use Rattle.gl_driver.proofs.laws.nothing_is_none.Goals as goal

pub returns : goal.returns
returns g c = nothing_is_none g.M.Machine
