use Rattle.gl_model.proofs.NewPlaces.{probes_take_free_places}
use Rattle.gl_model.proofs.laws.probes_take_free_places.Goals as goal

pub returns : goal.returns
returns g c = probes_take_free_places g.K.Image.stands_for
