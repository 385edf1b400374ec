use Rattle.gl_model.specs.declared.device_call.DeviceCall.TheVariants.{Removing}
use Rattle.gl_model.specs.declared.device_call.RemovalOf.TheVariants.{OfChip}
use Rattle.gl_gate.specs.Calls.{KnowsClosed, KnowsDrained}
use Rattle.gl_chip.specs.Opened.{LastFinds}
use Rattle.gl_chip.specs.Removals.{is_gone_outside}
use Rattle.gl_chip.proofs.GoneChips.{gone_is_told}
use Rattle.gl_chip.proofs.RemovalCalls.{ends_as_begun, ok_is_done, removes_out}
use Rattle.gl_chip.proofs.gpio.Gpio.unplug.Goals as goal

pub returns-in-Ok-clause-called : goal.returns-in-Ok-clause-called
returns-in-Ok-clause-called g c = removes_out c.done.result c.args.actor.now.pass.view c.remove.new.actor.pass.view (Removing (OfChip c.args.place)) c.in-Ok.reply c.done.ensures c.in-Ok.ensures.called

pub returns-in-Ok-clause-drained : goal.returns-in-Ok-clause-drained
returns-in-Ok-clause-drained g c = ok_is_done c.in-Ok.reply c.done.result (KnowsDrained c.remove.new.actor.pass.view c.args.place) c.done.ensures c.in-Ok.ensures.refused (λ d. (c.in-Ok.ensures.places.removed d).1)

pub returns-in-Ok-clause-closed : goal.returns-in-Ok-clause-closed
returns-in-Ok-clause-closed g c = ok_is_done c.in-Ok.reply c.done.result (KnowsClosed c.remove.new.actor.pass.view c.args.place) c.done.ensures c.in-Ok.ensures.refused (λ d. (c.in-Ok.ensures.places.removed d).0)

pub returns-in-Ok-clause-gone : goal.returns-in-Ok-clause-gone
returns-in-Ok-clause-gone g c = λ not_full. gone_is_told c.in-Ok.reply c.done.result (LastFinds (is_gone_outside c.args.place) c.remove.new.actor.pass.view.seen) c.done.ensures c.in-Ok.ensures.gone

pub returns-in-Ok-clause-ended : goal.returns-in-Ok-clause-ended
returns-in-Ok-clause-ended g c = λ _. ends_as_begun (OfChip c.args.place) c.done.result c.in-Ok.reply c.args.actor.now.pass.view c.remove.new.actor.pass.view c.done.ensures c.in-Ok.ensures.ended
