use Rattle.gl_world.proofs.Deeds.{deeds_stand}
use Rattle.gl_world.proofs.laws.deeds_stand.Goals as goal

pub returns : goal.returns
returns g c = deeds_stand g.M.Machine
