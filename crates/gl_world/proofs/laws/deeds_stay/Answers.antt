use Rattle.gl_world.proofs.Deeds.{deeds_stay}
use Rattle.gl_world.proofs.laws.deeds_stay.Goals as goal

pub returns : goal.returns
returns g c = deeds_stay g.M.Machine
