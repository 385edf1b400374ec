use Rattle.std.proofs.Common.{◌≡◌, ℕ, List, ◌++◌, length, drop, false, Some, refl, sym, subst}
use Rattle.gl_core.specs.Device.{core}
use Rattle.gl_model.specs.Entries.{guarded_place, refused_place}
use Rattle.gl_model.specs.Fits.{Fits}
use Rattle.gl_model.specs.declared.call.Call.{Call}
use Rattle.gl_model.specs.declared.device_call.DeviceCall.TheVariants.{Commanding}
use Rattle.gl_model.specs.Parts.{in_whole}
use Rattle.gl_chip.specs.Called.{HasCalled}
use Rattle.gl_chip.proofs.GateSteps.{if_ok}
use Rattle.gl_chip.proofs.HandedBytes.{command_fits}
use Rattle.gl_chip.specs.Steps.{IsWhole}
use Rattle.gl_chip.proofs.WholeCalls.{called_guarded, command_is_one, command_is_whole, guarded_as, guarded_not_full, form_guarded, idle_guarded, none_not_some, seen_from}
use Rattle.gl_chip.specs.Values.{IsSameActor}
use Rattle.gl_chip.proofs.SameActors.{either, same_grown}
use Rattle.gl_chip.proofs.gpio.Gpio.whole_command.Goals as goal

pub guarded-requires-clause-fits : goal.guarded-requires-clause-fits
guarded-requires-clause-fits g c = subst (λ (x : Call). Fits x _ c.args.out.now) (sym c.in_part-call.ensures.part) (command_fits c.args.command.now c.args.out.now _ c.requires.place c.requires.handed)

pub guarded-requires-clause-whole : goal.guarded-requires-clause-whole
guarded-requires-clause-whole g c = subst (λ (x : Call). IsWhole core x) (sym c.in_part-call.ensures.part) (command_is_whole c.args.command.now)

pub guarded-requires-clause-named : goal.guarded-requires-clause-named
guarded-requires-clause-named g c = subst (λ (x : Call). (guarded_place x ≡ Some c.args.command.now.place) × ((p : ℕ) → refused_place x ≡ Some p → ⊥)) (sym c.in_part-call.ensures.part) (refl, none_not_some)

pub invariant_of-actor : goal.invariant_of-actor
invariant_of-actor g c = let command = c.args.command.now in
    idle_guarded c.guarded.result c.args.command.now.place false c.actor.inside.pass.view c.guarded.new.pass.view (in_whole command) (Commanding command) c.args.out.now c.guarded.new.out _ (command_is_one command c.requires.not_asked) c.actor.invariant c.guarded.ensures.free
    (guarded_as c.guarded.result c.args.command.now.place false c.actor.inside.pass.view c.guarded.new.pass.view c.in_part-call.result (in_whole command) c.args.out.now c.guarded.new.out c.in_part-call.ensures.part c.guarded.ensures.called) c.guarded.ensures.full

pub returns-clause-called : goal.returns-clause-called
returns-clause-called g c = let command = c.args.command.now in
    if_ok c.guarded.result _ _ (λ r step. seen_from _ _ (λ v. (bytes : List ℕ) × (c.guarded.new.out ≡ bytes ++ drop (length bytes) c.args.out.now) × HasCalled 0 v (Commanding command) r bytes c.guarded.new.pass.view) c.actor.view_is
    (called_guarded c.args.command.now.place false c.actor.inside.pass.view c.guarded.new.pass.view (in_whole command) (Commanding command) r c.args.out.now c.guarded.new.out (command_is_one command c.requires.not_asked) step))
    (guarded_as c.guarded.result c.args.command.now.place false c.actor.inside.pass.view c.guarded.new.pass.view c.in_part-call.result (in_whole command) c.args.out.now c.guarded.new.out c.in_part-call.ensures.part c.guarded.ensures.called)

pub returns-clause-form : goal.returns-clause-form
returns-clause-form g c = let command = c.args.command.now in
    if_ok c.guarded.result _ _ (λ r step. form_guarded c.args.command.now.place false c.actor.inside.pass.view c.guarded.new.pass.view (in_whole command) r c.args.out.now c.guarded.new.out step)
    (guarded_as c.guarded.result c.args.command.now.place false c.actor.inside.pass.view c.guarded.new.pass.view c.in_part-call.result (in_whole command) c.args.out.now c.guarded.new.out c.in_part-call.ensures.part c.guarded.ensures.called)

pub returns-clause-not_full : goal.returns-clause-not_full
returns-clause-not_full g c = if_ok c.guarded.result _ _ (λ r step. guarded_not_full c.args.command.now.place _ c.actor.inside.pass.view c.guarded.new.pass.view _ r c.args.out.now c.guarded.new.out step) c.guarded.ensures.called

pub returns-clause-same : goal.returns-clause-same
returns-clause-same g c = seen_from _ _ (λ v. IsSameActor v c.guarded.new.pass.view) c.actor.view_is
    (either c.guarded.result _ _ (IsSameActor c.actor.inside.pass.view c.guarded.new.pass.view) c.guarded.ensures.called c.guarded.ensures.full
    (λ r step. same_grown c.actor.inside.pass.view c.guarded.new.pass.view _ step.grew step.knows_as_much)
    (λ e full. same_grown c.actor.inside.pass.view c.guarded.new.pass.view _ full.2.grew full.2.knows_as_much))
