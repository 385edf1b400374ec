use Rattle.std.proofs.Common.{◌≡◌, ℕ, List, ◌++◌, length, drop}
use Rattle.gl_model.specs.declared.device_call.DeviceCall.TheVariants.{Once}
use Rattle.gl_chip.specs.Called.{HasCalled}
use Rattle.gl_chip.proofs.GateSteps.{if_ok}
use Rattle.gl_chip.proofs.WholeCalls.{called_guarded, guarded_not_full, length_guarded, form_guarded, idle_guarded, once_is_one, seen_from}
use Rattle.gl_chip.specs.Values.{IsSameActor}
use Rattle.gl_chip.proofs.SameActors.{either, same_grown}
use Rattle.gl_chip.proofs.gpio.Gpio.behind_guard.Goals as goal

pub invariant_of-actor : goal.invariant_of-actor
invariant_of-actor g c = idle_guarded c.guarded.result c.args.guard.place c.args.guard.poll c.actor.inside.pass.view c.guarded.new.pass.view c.args.call.now (Once c.args.call.now) c.args.out.now c.guarded.new.out _ (once_is_one c.args.guard.place c.args.guard.poll c.args.call.now c.requires.single c.requires.guard c.requires.poll c.requires.tells) c.actor.invariant c.guarded.ensures.free c.guarded.ensures.called c.guarded.ensures.full

pub returns-clause-called : goal.returns-clause-called
returns-clause-called g c = if_ok c.guarded.result _ _ (λ r step. seen_from _ _ (λ v. (bytes : List ℕ) × (c.guarded.new.out ≡ bytes ++ drop (length bytes) c.args.out.now) × HasCalled 0 v (Once c.args.call.now) r bytes c.guarded.new.pass.view) c.actor.view_is
    (called_guarded c.args.guard.place c.args.guard.poll c.actor.inside.pass.view c.guarded.new.pass.view c.args.call.now (Once c.args.call.now) r c.args.out.now c.guarded.new.out (once_is_one c.args.guard.place c.args.guard.poll c.args.call.now c.requires.single c.requires.guard c.requires.poll c.requires.tells) step)) c.guarded.ensures.called

pub returns-clause-form : goal.returns-clause-form
returns-clause-form g c = if_ok c.guarded.result _ _ (λ r step. form_guarded c.args.guard.place c.args.guard.poll c.actor.inside.pass.view c.guarded.new.pass.view c.args.call.now r c.args.out.now c.guarded.new.out step) c.guarded.ensures.called

pub returns-clause-not_full : goal.returns-clause-not_full
returns-clause-not_full g c = if_ok c.guarded.result _ _ (λ r step. guarded_not_full c.args.guard.place _ c.actor.inside.pass.view c.guarded.new.pass.view c.args.call.now r c.args.out.now c.guarded.new.out step) c.guarded.ensures.called

pub returns-clause-lengths : goal.returns-clause-lengths
returns-clause-lengths g c = if_ok c.guarded.result _ _ (λ r step. length_guarded c.args.guard.place c.args.guard.poll c.actor.inside.pass.view c.guarded.new.pass.view c.args.call.now r c.args.out.now c.guarded.new.out c.requires.fits.fits_call step) c.guarded.ensures.called

pub returns-clause-same : goal.returns-clause-same
returns-clause-same g c = seen_from _ _ (λ v. IsSameActor v c.guarded.new.pass.view) c.actor.view_is
    (either c.guarded.result _ _ (IsSameActor c.actor.inside.pass.view c.guarded.new.pass.view) c.guarded.ensures.called c.guarded.ensures.full
    (λ r step. same_grown c.actor.inside.pass.view c.guarded.new.pass.view _ step.grew step.knows_as_much)
    (λ e full. same_grown c.actor.inside.pass.view c.guarded.new.pass.view _ full.2.grew full.2.knows_as_much))
