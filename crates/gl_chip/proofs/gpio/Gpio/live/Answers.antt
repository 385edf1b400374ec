use Rattle.gl_model.specs.declared.device_call.DeviceCall.TheVariants.{Removing}
use Rattle.gl_model.specs.declared.device_call.RemovalOf.TheVariants.{OfDevice}
use Rattle.gl_chip.proofs.RemovalCalls.{ends_as_begun, removes_out}
use Rattle.gl_chip.proofs.gpio.Gpio.live.Goals as goal

pub returns-in-Ok-clause-removed : goal.returns-in-Ok-clause-removed
returns-in-Ok-clause-removed g c = λ _. removes_out c.done.result c.args.actor.now.pass.view c.remove.new.actor.pass.view (Removing (OfDevice c.args.device.now)) c.in-Ok.reply c.done.ensures c.in-Ok.ensures.called

pub returns-in-Ok-clause-ended : goal.returns-in-Ok-clause-ended
returns-in-Ok-clause-ended g c = λ down _. ends_as_begun (OfDevice c.args.device.now) c.done.result c.in-Ok.reply c.args.actor.now.pass.view c.remove.new.actor.pass.view c.done.ensures c.in-Ok.ensures.ended
