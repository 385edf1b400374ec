use Rattle.std.proofs.Common.{◌≡◌, ℕ, ◌<◌, List, ◌++◌, length, drop, sym, refl, ap, subst, ◌∙◌}
use Rattle.std.proofs.lemmas.Bool.{true≢false}
use Rattle.gl_rule.specs.Sums.{times, without}
use Rattle.gl_chip.specs.DriverCommands.{HasCommanded}
use Rattle.gl_core.specs.Device.{core}
use Rattle.gl_chip.proofs.CommandCalls.{called_command, idle_commanded, inside_after, left_place, refused_no_number, turned_away}
use Rattle.gl_chip.proofs.GateSteps.{came_in, found_closed, free_owes, if_err, if_ok, is_free, no_room, no_room_left, owes_moved, went_out}
use Rattle.gl_chip.specs.Steps.{FoundNoRoom}
use Rattle.gl_chip.specs.Values.{IsSameActor}
use Rattle.gl_chip.proofs.SameActors.{either, same_grown}
use Rattle.gl_chip.proofs.WholeCalls.{port_from, seen_from}
use Rattle.gl_chip.proofs.gpio.Gpio.driven_command.Goals as goal

pub invariant_of-actor : goal.invariant_of-actor
invariant_of-actor g c =
    let found = found_closed core c.args.asked.now.command.now.place c.actor.inside.pass c.enter.new.pass (c.enter.ensures.refused c.if-not-enter.true) in
    idle_commanded g.D.Port.Port.told g.D.Port.Port.faults g.D.Port.Port.maps g.D.Port.Port.maps_left g.D.Driver.OwnEntries g.D.Driver.Follows g.D.Driver.ENTRIES c.refused_at.result c.args.asked.now.op.now (record { pass = c.actor.inside.pass; port = c.actor.inside.port }) (record { pass = c.refused_at.new.pass; port = c.actor.inside.port })
    c.args.asked.now.command.now c.args.out.now c.refused_at.new.out c.actor.invariant
    (is_free core c.refused_at.new.pass.view (inside_after c.refused_at.result c.enter.new.pass.view c.refused_at.new.pass.view _ _ _ _ c.refused_at.ensures.called c.refused_at.ensures.full ∙ (found.1 ∙ c.actor.invariant.free.inside)) c.refused_at.ensures.owes)
    (if_ok c.refused_at.result _ _ (λ r step. turned_away g.D.Port.Port.told g.D.Port.Port.faults g.D.Port.Port.maps g.D.Port.Port.maps_left g.D.Driver.OwnEntries g.D.Driver.Follows g.D.Driver.ENTRIES c.args.asked.now.op.now (record { pass = c.actor.inside.pass; port = c.actor.inside.port }) (record { pass = c.refused_at.new.pass; port = c.actor.inside.port })
    c.enter.new.pass.view c.args.asked.now.command.now r c.args.out.now c.refused_at.new.out found.0 c.enter.ensures.knows (c.enter.ensures.closed c.if-not-enter.true) step refl) c.refused_at.ensures.called)
    (if_err c.refused_at.result _ _ (λ e full. (no_room core c.actor.inside.pass.view c.enter.new.pass.view c.refused_at.new.pass.view found.0 c.enter.ensures.knows full.2).grew) c.refused_at.ensures.full)

pub returns-then-not-enter-clause-commanded : goal.returns-then-not-enter-clause-commanded
returns-then-not-enter-clause-commanded g c =
    let found = found_closed core c.args.asked.now.command.now.place c.actor.inside.pass c.enter.new.pass (c.enter.ensures.refused c.if-not-enter.true) in
    if_ok c.refused_at.result _ _ (λ r step. subst (λ x. (bytes : List ℕ) × (c.refused_at.new.out ≡ bytes ++ drop (length bytes) c.args.out.now)
    × HasCommanded g.D.Port.Port.told g.D.Port.Port.faults g.D.Port.Port.maps g.D.Port.Port.maps_left g.D.Driver.OwnEntries g.D.Driver.Follows g.D.Driver.ENTRIES c.args.asked.now.op.now x c.args.asked.now.command.now r bytes (record { pass = c.refused_at.new.pass; port = c.actor.inside.port })) c.actor.view_is
    (turned_away g.D.Port.Port.told g.D.Port.Port.faults g.D.Port.Port.maps g.D.Port.Port.maps_left g.D.Driver.OwnEntries g.D.Driver.Follows g.D.Driver.ENTRIES c.args.asked.now.op.now (record { pass = c.actor.inside.pass; port = c.actor.inside.port }) (record { pass = c.refused_at.new.pass; port = c.actor.inside.port })
    c.enter.new.pass.view c.args.asked.now.command.now r c.args.out.now c.refused_at.new.out found.0 c.enter.ensures.knows (c.enter.ensures.closed c.if-not-enter.true) step refl)) c.refused_at.ensures.called

pub invariant_of-actor-2 : goal.invariant_of-actor-2
invariant_of-actor-2 g c =
    let entered = came_in core c.args.asked.now.command.now.place c.actor.inside.pass c.enter.new.pass (c.enter.ensures.entered c.if-not-enter.false) in
    let out = went_out core c.args.asked.now.command.now.place c.command_inside-answer.new.pass c.leave.new.pass c.leave.ensures in
    idle_commanded g.D.Port.Port.told g.D.Port.Port.faults g.D.Port.Port.maps g.D.Port.Port.maps_left g.D.Driver.OwnEntries g.D.Driver.Follows g.D.Driver.ENTRIES c.command_inside-answer.result c.args.asked.now.op.now (record { pass = c.actor.inside.pass; port = c.actor.inside.port }) (record { pass = c.leave.new.pass; port = c.command_inside-answer.new.port })
    c.args.asked.now.command.now c.args.out.now c.command_inside-answer.new.out c.actor.invariant
    (is_free core c.leave.new.pass.view
    (left_place c.args.asked.now.command.now.place c.command_inside-answer.new.pass c.leave.new.pass c.leave.ensures ∙ (ap (λ (l : List ℕ). without c.args.asked.now.command.now.place l) c.command_inside-answer.ensures.inside ∙ (c.enter.ensures.back c.if-not-enter.false ∙ c.actor.invariant.free.inside)))
    (owes_moved core c.command_inside-answer.new.pass.view c.leave.new.pass.view out.0 0 c.command_inside-answer.ensures.owes))
    (if_ok c.command_inside-answer.result _ _ (λ r did. called_command g.D.Port.Port.told g.D.Port.Port.faults g.D.Port.Port.maps g.D.Port.Port.maps_left g.D.Driver.OwnEntries g.D.Driver.Follows g.D.Driver.ENTRIES c.args.asked.now.op.now (record { pass = c.actor.inside.pass; port = c.actor.inside.port }) (record { pass = c.leave.new.pass; port = c.command_inside-answer.new.port })
    c.enter.new.pass.view c.command_inside-answer.new.pass.view c.args.asked.now.command.now r c.args.out.now c.command_inside-answer.new.out c.requires.asked entered c.enter.ensures.knows
    (λ k. true≢false (sym c.if-not-enter.false ∙ c.enter.ensures.known k)) did out.0 out.1 out.2) c.command_inside-answer.ensures.called)
    (if_err c.command_inside-answer.result _ _ (λ e full. (no_room_left core c.actor.inside.pass.view c.command_inside-answer.new.pass.view c.leave.new.pass.view
    (no_room core c.actor.inside.pass.view c.enter.new.pass.view c.command_inside-answer.new.pass.view entered c.enter.ensures.knows full.3) out.0 out.1 out.2).grew) c.command_inside-answer.ensures.full)

pub returns-clause-commanded : goal.returns-clause-commanded
returns-clause-commanded g c =
    let entered = came_in core c.args.asked.now.command.now.place c.actor.inside.pass c.enter.new.pass (c.enter.ensures.entered c.if-not-enter.false) in
    let out = went_out core c.args.asked.now.command.now.place c.command_inside-answer.new.pass c.leave.new.pass c.leave.ensures in
    if_ok c.command_inside-answer.result _ _ (λ r did. subst (λ x. (bytes : List ℕ) × (c.command_inside-answer.new.out ≡ bytes ++ drop (length bytes) c.args.out.now)
    × HasCommanded g.D.Port.Port.told g.D.Port.Port.faults g.D.Port.Port.maps g.D.Port.Port.maps_left g.D.Driver.OwnEntries g.D.Driver.Follows g.D.Driver.ENTRIES c.args.asked.now.op.now x c.args.asked.now.command.now r bytes (record { pass = c.leave.new.pass; port = c.command_inside-answer.new.port })) c.actor.view_is
    (called_command g.D.Port.Port.told g.D.Port.Port.faults g.D.Port.Port.maps g.D.Port.Port.maps_left g.D.Driver.OwnEntries g.D.Driver.Follows g.D.Driver.ENTRIES c.args.asked.now.op.now (record { pass = c.actor.inside.pass; port = c.actor.inside.port }) (record { pass = c.leave.new.pass; port = c.command_inside-answer.new.port })
    c.enter.new.pass.view c.command_inside-answer.new.pass.view c.args.asked.now.command.now r c.args.out.now c.command_inside-answer.new.out c.requires.asked entered c.enter.ensures.knows
    (λ k. true≢false (sym c.if-not-enter.false ∙ c.enter.ensures.known k)) did out.0 out.1 out.2)) c.command_inside-answer.ensures.called

pub returns-then-not-enter-clause-number : goal.returns-then-not-enter-clause-number
returns-then-not-enter-clause-number g c = if_ok c.refused_at.result _ _ (λ r step n is. absurd (refused_no_number c.enter.new.pass.view c.refused_at.new.pass.view c.args.asked.now.command.now.place r _ _ step n is)) c.refused_at.ensures.called

pub returns-clause-number : goal.returns-clause-number
returns-clause-number g c = if_ok c.command_inside-answer.result _ _ (λ r did. did.numbered) c.command_inside-answer.ensures.called

pub returns-then-not-enter-clause-full : goal.returns-then-not-enter-clause-full
returns-then-not-enter-clause-full g c =
    let found = found_closed core c.args.asked.now.command.now.place c.actor.inside.pass c.enter.new.pass (c.enter.ensures.refused c.if-not-enter.true) in
    if_err c.refused_at.result _ _ (λ e full. (
      full.0,
      full.1,
      port_from _ _ c.actor.view_is,
      seen_from _ _ (λ v. FoundNoRoom core v c.refused_at.new.pass.view) c.actor.view_is
          (no_room core c.actor.inside.pass.view c.enter.new.pass.view c.refused_at.new.pass.view found.0 c.enter.ensures.knows full.2),
    )) c.refused_at.ensures.full

pub returns-clause-full : goal.returns-clause-full
returns-clause-full g c =
    let entered = came_in core c.args.asked.now.command.now.place c.actor.inside.pass c.enter.new.pass (c.enter.ensures.entered c.if-not-enter.false) in
    let out = went_out core c.args.asked.now.command.now.place c.command_inside-answer.new.pass c.leave.new.pass c.leave.ensures in
    if_err c.command_inside-answer.result _ _ (λ e full. (
      full.0,
      full.1,
      full.2 ∙ port_from _ _ c.actor.view_is,
      seen_from _ _ (λ v. FoundNoRoom core v c.leave.new.pass.view) c.actor.view_is
          (no_room_left core c.actor.inside.pass.view c.command_inside-answer.new.pass.view c.leave.new.pass.view
          (no_room core c.actor.inside.pass.view c.enter.new.pass.view c.command_inside-answer.new.pass.view entered c.enter.ensures.knows full.3) out.0 out.1 out.2),
    )) c.command_inside-answer.ensures.full

pub returns-then-not-enter-clause-same : goal.returns-then-not-enter-clause-same
returns-then-not-enter-clause-same g c = either c.refused_at.result _ _ (IsSameActor c.args.actor.now.pass.view c.refused_at.new.pass.view) (returns-then-not-enter-clause-commanded g c) (returns-then-not-enter-clause-full g c)
    (λ r h. same_grown _ _ _ h.2.called.grew h.2.called.knows_as_much) (λ e full. same_grown _ _ _ full.3.grew full.3.knows_as_much)

pub returns-clause-same : goal.returns-clause-same
returns-clause-same g c = either c.command_inside-answer.result _ _ (IsSameActor c.args.actor.now.pass.view c.leave.new.pass.view) (returns-clause-commanded g c) (returns-clause-full g c)
    (λ r h. same_grown _ _ _ h.2.called.grew h.2.called.knows_as_much) (λ e full. same_grown _ _ _ full.3.grew full.3.knows_as_much)

pub leave-requires-clause-inside : goal.leave-requires-clause-inside
leave-requires-clause-inside g c κs = subst (λ (l : List ℕ). 0 < times c.args.asked.now.command.now.place l) (sym c.command_inside-answer.ensures.inside) (c.enter.ensures.inside c.if-not-enter.false)

pub refused_at-requires-clause-closed : goal.refused_at-requires-clause-closed
refused_at-requires-clause-closed g c = c.enter.ensures.closed c.if-not-enter.true

pub refused_at-requires-clause-owes : goal.refused_at-requires-clause-owes
refused_at-requires-clause-owes g c = owes_moved core c.actor.inside.pass.view c.enter.new.pass.view (found_closed core c.args.asked.now.command.now.place c.actor.inside.pass c.enter.new.pass (c.enter.ensures.refused c.if-not-enter.true)).0 0 (free_owes core c.actor.inside.pass.view c.actor.invariant.free)

pub command_inside-answer-requires-clause-owes : goal.command_inside-answer-requires-clause-owes
command_inside-answer-requires-clause-owes g c κs within = owes_moved core c.actor.inside.pass.view c.enter.new.pass.view (came_in core c.args.asked.now.command.now.place c.actor.inside.pass c.enter.new.pass (c.enter.ensures.entered c.if-not-enter.false)) 0 (free_owes core c.actor.inside.pass.view c.actor.invariant.free)
