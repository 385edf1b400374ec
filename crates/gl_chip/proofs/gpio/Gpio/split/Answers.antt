use Rattle.gl_chip.proofs.Idle.{newcomer_idle, split_idle}
use Rattle.gl_chip.proofs.gpio.Gpio.split.Goals as goal

pub invariant_of-actor : goal.invariant_of-actor
invariant_of-actor g c = split_idle c.actor.inside.pass c.split-pass.new.pass c.split-pass.ensures.old c.actor.invariant

pub invariant_of-result : goal.invariant_of-result
invariant_of-result g c = newcomer_idle c.split-pass.result.view _ _ _ _ _ _ c.split-pass.ensures.new c.split-pass.ensures.removes
