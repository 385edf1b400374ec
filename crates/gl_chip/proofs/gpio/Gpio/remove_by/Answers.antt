use Rattle.std.proofs.Common.{◌≡◌, ℕ, List, false, IfErr, IfOk}
use Rattle.gl_base.specs.declared.errno.Errno.TheVariants.{Full}
use Rattle.gl_gate.specs.Calls.{KnowsTheSame}
use Rattle.gl_model.specs.Entries.{is_done}
use Rattle.gl_model.specs.declared.device_call.DeviceCall.TheVariants.{Removing}
use Rattle.gl_chip.specs.Called.{HasCalled}
use Rattle.gl_chip.specs.Removals.{AllDrained, RemovedBy, removal_of}
use Rattle.gl_chip.specs.Steps.{FoundNoRoom}
use Rattle.gl_chip.specs.Values.{IsSameActor}
use Rattle.gl_chip.proofs.WholeCalls.{seen_from}
use Rattle.gl_core.specs.Device.{core}
use Rattle.gl_chip.proofs.gpio.Gpio.remove_by.Goals as goal

pub invariant_of-actor : goal.invariant_of-actor
invariant_of-actor g c = c.remove_with.ensures.idle

pub returns-clause-same : goal.returns-clause-same
returns-clause-same g c = seen_from _ _ (λ v. IsSameActor v c.remove_with.new.pass.view) c.actor.view_is c.remove_with.ensures.same

pub returns-clause-called : goal.returns-clause-called
returns-clause-called g c = seen_from _ _ (λ v. IfOk c.remove_with.result (λ r. (x : List ℕ) × (called : HasCalled 0 v (Removing (removal_of c.args.first.now)) r x c.remove_with.new.pass.view) × AllDrained called.did c.remove_with.new.pass.view)) c.actor.view_is c.remove_with.ensures.called

pub returns-clause-ended : goal.returns-clause-ended
returns-clause-ended g c = seen_from _ _ (λ v. IfOk c.remove_with.result (λ r. RemovedBy (removal_of c.args.first.now) r v c.remove_with.new.pass.view)) c.actor.view_is c.remove_with.ensures.ended

pub returns-clause-places : goal.returns-clause-places
returns-clause-places g c = seen_from _ _ (λ v. IfOk c.remove_with.result (λ r. is_done r ≡ false → KnowsTheSame v c.remove_with.new.pass.view)) c.actor.view_is c.remove_with.ensures.places

pub returns-clause-refused : goal.returns-clause-refused
returns-clause-refused g c = c.remove_with.ensures.refused

pub returns-clause-drained : goal.returns-clause-drained
returns-clause-drained g c = c.remove_with.ensures.drained

pub returns-clause-gone : goal.returns-clause-gone
returns-clause-gone g c = c.remove_with.ensures.gone

pub returns-clause-full : goal.returns-clause-full
returns-clause-full g c = seen_from _ _ (λ v. IfErr c.remove_with.result (λ e. (e ≡ Full) × FoundNoRoom core v c.remove_with.new.pass.view)) c.actor.view_is c.remove_with.ensures.full
