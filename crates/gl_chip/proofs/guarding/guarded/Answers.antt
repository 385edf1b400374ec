use Rattle.std.proofs.Common.{ℕ, ◌<◌, List, sym, refl, ap, subst, ◌∙◌}
use Rattle.std.proofs.lemmas.Bool.{true≢false}
use Rattle.gl_model.specs.declared.call.Call.TheVariants.{Refused as RefusedCall}
use Rattle.gl_core.specs.Device.{core}
use Rattle.gl_rule.specs.Sums.{times, without}
use Rattle.gl_chip.proofs.CommandCalls.{inside_after_gift, left_place}
use Rattle.gl_chip.proofs.GateSteps.{if_err, if_ok, came_in, found_closed, is_free, no_room, no_room_left, owes_moved, refused_there, went_out, called_inside}
use Rattle.gl_chip.proofs.guarding.guarded.Goals as goal

pub returns-then-not-enter-clause-called : goal.returns-then-not-enter-clause-called
returns-then-not-enter-clause-called g c = if_ok c.refused_at.result _ _ (λ r step. refused_there core c.args.guard.place c.args.pass.now.view c.enter.new.pass.view c.refused_at.new.pass.view c.args.call.now (RefusedCall c.args.guard.place c.args.guard.poll) r _ _ refl
    ((found_closed core c.args.guard.place c.args.pass.now c.enter.new.pass (c.enter.ensures.refused c.if-not-enter.true)).0) (c.enter.ensures.closed c.if-not-enter.true) c.enter.ensures.knows step) c.refused_at.ensures.called

pub returns-clause-called : goal.returns-clause-called
returns-clause-called g c = let out = went_out core c.args.guard.place c.alone-answer.new.pass c.leave.new.pass c.leave.ensures in
    if_ok c.alone-answer.result _ _ (λ r step. called_inside core c.args.guard.place c.args.pass.now.view c.enter.new.pass.view c.alone-answer.new.pass.view c.leave.new.pass.view c.args.call.now (RefusedCall c.args.guard.place c.args.guard.poll) r _ _ c.requires.whole.ends_not
    (came_in core c.args.guard.place c.args.pass.now c.enter.new.pass (c.enter.ensures.entered c.if-not-enter.false)) c.enter.ensures.knows
    (λ k. true≢false (sym c.if-not-enter.false ∙ c.enter.ensures.known k)) step out.0 out.1 out.2) c.alone-answer.ensures.called

pub returns-clause-full : goal.returns-clause-full
returns-clause-full g c =
    let entered = came_in core c.args.guard.place c.args.pass.now c.enter.new.pass (c.enter.ensures.entered c.if-not-enter.false) in
    let out = went_out core c.args.guard.place c.alone-answer.new.pass c.leave.new.pass c.leave.ensures in
    if_err c.alone-answer.result _ _ (λ e full. (
      full.0,
      full.1,
      no_room_left core c.args.pass.now.view c.alone-answer.new.pass.view c.leave.new.pass.view
          (no_room core c.args.pass.now.view c.enter.new.pass.view c.alone-answer.new.pass.view entered c.enter.ensures.knows full.3) out.0 out.1 out.2,
    )) c.alone-answer.ensures.full

pub leave-requires-clause-inside : goal.leave-requires-clause-inside
leave-requires-clause-inside g c κs = let alone = c.alone-answer.ensures in
    subst (λ (l : List ℕ). 0 < times c.args.guard.place l) (sym (inside_after_gift c.alone-answer.result c.enter.new.pass.view c.alone-answer.new.pass.view c.args.call.now _ _ _ _ alone.called alone.full)) (c.enter.ensures.inside c.if-not-enter.false)

pub returns-clause-free : goal.returns-clause-free
returns-clause-free g c = let alone = c.alone-answer.ensures in
    is_free core c.leave.new.pass.view
    (left_place c.args.guard.place c.alone-answer.new.pass c.leave.new.pass c.leave.ensures ∙ (ap (λ (l : List ℕ). without c.args.guard.place l) (inside_after_gift c.alone-answer.result c.enter.new.pass.view c.alone-answer.new.pass.view c.args.call.now _ _ _ _ alone.called alone.full)
    ∙ (c.enter.ensures.back c.if-not-enter.false ∙ c.requires.free.inside)))
    (owes_moved core c.alone-answer.new.pass.view c.leave.new.pass.view (went_out core c.args.guard.place c.alone-answer.new.pass c.leave.new.pass c.leave.ensures).0 0 alone.owes)
