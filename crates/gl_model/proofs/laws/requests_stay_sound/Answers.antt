use Rattle.gl_model.proofs.SoundRequests.{requests_stay_sound}
use Rattle.gl_model.proofs.laws.requests_stay_sound.Goals as goal

pub returns : goal.returns
returns c = requests_stay_sound
