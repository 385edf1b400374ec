use Rattle.gl_driver.proofs.Backs.{refusal_is_none}
use Rattle.gl_driver.proofs.laws.refusal_is_none.Goals as goal

pub returns : goal.returns
returns g c = refusal_is_none g.M.Machine
