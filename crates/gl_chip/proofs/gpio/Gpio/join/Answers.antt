use Rattle.gl_chip.proofs.Idle.{join_idle}
use Rattle.gl_chip.proofs.gpio.Gpio.join.Goals as goal

pub invariant_of-actor : goal.invariant_of-actor
invariant_of-actor g c = join_idle c.actor.inside.pass c.join.new.pass c.other.inside.pass.view c.join.ensures.joined c.join.ensures.removes c.actor.invariant
