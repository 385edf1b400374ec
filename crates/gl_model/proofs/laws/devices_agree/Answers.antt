use Rattle.gl_model.proofs.Devices.{devices_agree}
use Rattle.gl_model.proofs.laws.devices_agree.Goals as goal

pub returns : goal.returns
returns g c = devices_agree g.K.Image.stands_for
