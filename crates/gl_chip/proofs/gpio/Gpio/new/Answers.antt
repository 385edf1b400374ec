use Rattle.gl_chip.proofs.Idle.{newcomer_idle}
use Rattle.gl_chip.proofs.gpio.Gpio.new.Goals as goal

pub invariant_of-result-in-Ok-new : goal.invariant_of-result-in-Ok-new
invariant_of-result-in-Ok-new g c = newcomer_idle c.in-Ok-new.pass.view _ _ _ _ _ _ c.in-Ok-new.ensures.first c.in-Ok-new.ensures.removes
