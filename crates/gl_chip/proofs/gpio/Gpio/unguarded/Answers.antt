use Rattle.std.proofs.Common.{rules, ◌≡◌, [], length}
use Rattle.gl_gate.specs.Calls.{KnowsTheSame}
use Rattle.gl_model.specs.declared.device_call.DeviceCall.TheVariants.{Once}
use Rattle.gl_chip.specs.Called.{HasCalled}
use Rattle.gl_chip.proofs.GateSteps.{if_ok}
use Rattle.gl_chip.proofs.WholeCalls.{alone_not_full, called_alone, form_alone, idle_alone, seen_from, single_is_whole}
use Rattle.gl_chip.specs.Values.{IsSameActor}
use Rattle.gl_chip.proofs.SameActors.{either, knows_still, same_grown}
use Rattle.gl_chip.proofs.GateSteps.{knows_same}
use Rattle.gl_chip.proofs.gpio.Gpio.unguarded.Goals as goal

pub alone-requires-clause-whole : goal.alone-requires-clause-whole
alone-requires-clause-whole g c κs within = single_is_whole c.args.call.now c.requires.single

pub invariant_of-actor : goal.invariant_of-actor
invariant_of-actor g c = let empty : length c.alone.new.out ≡ 0 = search rules in
    idle_alone c.alone.result c.actor.inside.pass.view c.alone.new.pass.view c.args.call.now _ c.alone.new.out _ _ c.requires.single c.requires.no_guard empty c.actor.invariant c.alone.ensures.owes c.alone.ensures.called c.alone.ensures.full

pub returns-clause-called : goal.returns-clause-called
returns-clause-called g c = let empty : length c.alone.new.out ≡ 0 = search rules in
    if_ok c.alone.result _ _ (λ r step. seen_from _ _ (λ v. HasCalled 0 v (Once c.args.call.now) r [] c.alone.new.pass.view) c.actor.view_is
    (called_alone c.actor.inside.pass.view c.alone.new.pass.view c.args.call.now r _ c.alone.new.out c.requires.single c.requires.no_guard empty step)) c.alone.ensures.called

pub returns-clause-form : goal.returns-clause-form
returns-clause-form g c = if_ok c.alone.result _ _ (λ r step. form_alone c.actor.inside.pass.view c.alone.new.pass.view c.args.call.now r _ _ step) c.alone.ensures.called

pub returns-clause-not_full : goal.returns-clause-not_full
returns-clause-not_full g c = if_ok c.alone.result _ _ (λ r step. alone_not_full c.actor.inside.pass.view c.alone.new.pass.view c.args.call.now r _ _ step) c.alone.ensures.called

pub returns-clause-same : goal.returns-clause-same
returns-clause-same g c = seen_from _ _ (λ v. IsSameActor v c.alone.new.pass.view) c.actor.view_is
    (either c.alone.result _ _ (IsSameActor c.actor.inside.pass.view c.alone.new.pass.view) c.alone.ensures.called c.alone.ensures.full
    (λ r step. same_grown c.actor.inside.pass.view c.alone.new.pass.view _ step.grew (knows_same c.actor.inside.pass.view c.alone.new.pass.view step.same.closed step.same.drained))
    (λ e full. same_grown c.actor.inside.pass.view c.alone.new.pass.view _ full.3.grew (knows_same c.actor.inside.pass.view c.alone.new.pass.view full.3.same.closed full.3.same.drained)))

pub returns-clause-places : goal.returns-clause-places
returns-clause-places g c = seen_from _ _ (λ v. KnowsTheSame v c.alone.new.pass.view) c.actor.view_is
    (either c.alone.result _ _ (KnowsTheSame c.actor.inside.pass.view c.alone.new.pass.view) c.alone.ensures.called c.alone.ensures.full
    (λ r step. knows_still c.actor.inside.pass.view c.alone.new.pass.view step.same) (λ e full. knows_still c.actor.inside.pass.view c.alone.new.pass.view full.3.same))
