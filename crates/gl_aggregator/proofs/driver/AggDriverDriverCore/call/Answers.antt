use Rattle.std.proofs.Common.{None, Some, [], ap, sym, subst, ◌∙◌, arith}
use Rattle.std.specs.Prelude.{get_or}
use Rattle.gl_core.specs.Device.{core}
use Rattle.gl_driver.specs.Maps.{map_at}
use Rattle.gl_driver.specs.Told.{answer_of}
use Rattle.gl_aggregator.specs.Aggregating.{FollowsBehind}
use Rattle.gl_aggregator.specs.Calling.{Calling}
use Rattle.gl_aggregator.specs.declared.routes.Route.{Route}
use Rattle.gl_aggregator.proofs.Driven.{driven_at}
use Rattle.gl_aggregator.proofs.Keeping.{apart, fits_of, fits_route, has_map, outside_of}
use Rattle.gl_aggregator.proofs.Loop.{done, ends_unspelled, first}
use Rattle.gl_aggregator.proofs.Points.{aggregates_at}
use Rattle.gl_aggregator.proofs.Turns.{not_begun, over_map, turn_passed, turn_stopped, visited}
use Rattle.gl_aggregator.proofs.driver.AggDriverDriverCore.call.Goals as goal
use Rattle.gl_aggregator.proofs.driver.AggDriverDriverCore.call.Goals.{else-begin_visit, then-begin_visit}

abbrev no_route : Route
no_route = record { target = record { place = 0; fd = 0; lines = record { count = 0; offsets = [] } }; base = 0 }

pub routes_of-routes-requires-clause-map : goal.routes_of-routes-requires-clause-map
routes_of-routes-requires-clause-map g c = fits_of c.port.inside.maps c.args.place c.in-Some.map c.port.invariant (sym c.map.ensures ∙ c.in-Some.is)

pub loop-route-init : goal.loop-route-init
loop-route-init g c = (
  c.requires.gate,
  ap (λ p. p.tally) c.port.view_is,
  ap (λ p. p.maps) c.port.view_is,
  subst (λ t. Calling core (FollowsBehind (g.D.Driver.Follows None) c.args.pass.now.view.room) c.args.op.now c.rows-rows.result.now 0 t (g.D.Port.Port.told c.port.inside.inner) c.args.pass.now.view c.args.pass.now.view 0) (ap (λ p. g.D.Port.Port.told p.inner) c.port.view_is)
      (first core (FollowsBehind (g.D.Driver.Follows None) c.args.pass.now.view.room) c.args.op.now c.rows-rows.result.now (g.D.Port.Port.told c.port.inside.inner) c.args.pass.now.view c.requires.no_turn),
)

pub begin_visit-requires-clause-outside : goal.begin_visit-requires-clause-outside
begin_visit-requires-clause-outside g c = outside_of c.args.pass.now.view c.loop-route.pass.view c.args.place c.in-Some-asking_on.asking.command.place c.loop-route.invariant.3.back.inside (c.requires.entries (λ e. absurd (omega (arith, e)))).inside
    (apart c.port.inside.maps c.args.place c.in-Some-asking_on.asking.command.place c.in-Some.map (get_or c.rows-rows.result.now c.loop-route.route-index no_route) (sym c.map.ensures ∙ c.in-Some.is)
    (fits_route c.in-Some.map.place c.routes_of-routes.result c.rows-rows.result.now c.loop-route.route-index no_route c.routes_of-routes.ensures.fit c.rows-rows.ensures (omega (arith, c.loop-route-test.true))) c.in-Some-asking_on.ensures.fits.place_is)

pub returns-in-None-asking_on-clause-drives : goal.returns-in-None-asking_on-clause-drives
returns-in-None-asking_on-clause-drives g c = driven_at core (g.D.Driver.Follows None) c.in-Some.map c.args.op.now c.args.port.now.tally c.loop-route.port-inside.tally c.take_down.new.self (g.D.Port.Port.told c.args.port.now.inner) (g.D.Port.Port.told c.loop-route.port-inside.inner) None (answer_of c.take_down.result) (map_at c.args.place c.args.port.now.maps) c.args.pass.now.view c.loop-route.pass.view
    (fits_of c.port.inside.maps c.args.place c.in-Some.map c.port.invariant (sym c.map.ensures ∙ c.in-Some.is)) (ap (λ p. map_at c.args.place p.maps) (sym c.port.view_is) ∙ (sym c.map.ensures ∙ c.in-Some.is)) c.loop-route.invariant.1 c.take_down.ensures.tally c.take_down.ensures.answer
    (over_map (FollowsBehind (g.D.Driver.Follows None) c.args.pass.now.view.room) c.in-Some.map c.args.op.now c.routes_of-routes.result c.rows-rows.result.now (g.D.Port.Port.told c.args.port.now.inner) (g.D.Port.Port.told c.loop-route.port-inside.inner) c.args.pass.now.view c.loop-route.pass.view None c.rows-rows.ensures c.routes_of-routes.ensures.routes
    (ends_unspelled core (FollowsBehind (g.D.Driver.Follows None) c.args.pass.now.view.room) c.args.op.now c.rows-rows.result.now (g.D.Port.Port.told c.args.port.now.inner) (g.D.Port.Port.told c.loop-route.port-inside.inner) c.loop-route.route-index no_route c.args.pass.now.view c.loop-route.pass.view c.loop-route.bits (omega (arith, c.loop-route-test.true)) c.loop-route.invariant.3 c.in-None-asking_on.ensures.visit))

pub returns-in-None-gathered_behind-clause-drives : goal.returns-in-None-gathered_behind-clause-drives
returns-in-None-gathered_behind-clause-drives g c =
    driven_at core (g.D.Driver.Follows None) c.in-Some.map c.args.op.now c.args.port.now.tally c.if-begin_visit.port-inside.tally c.take_down-in-None-gathered_behind.new.self (g.D.Port.Port.told c.args.port.now.inner) (g.D.Port.Port.told c.if-begin_visit.port-inside.inner) None (answer_of c.take_down-in-None-gathered_behind.result) (map_at c.args.place c.args.port.now.maps) c.args.pass.now.view c.if-begin_visit.pass.view
    (fits_of c.port.inside.maps c.args.place c.in-Some.map c.port.invariant (sym c.map.ensures ∙ c.in-Some.is)) (ap (λ p. map_at c.args.place p.maps) (sym c.port.view_is) ∙ (sym c.map.ensures ∙ c.in-Some.is)) (elim c.if-begin_visit.branch [
      | then-begin_visit y ↦ ap (λ p. p.tally) y.port-inside-is ∙ c.loop-route.invariant.1
      | else-begin_visit y ↦ ap (λ p. p.tally) y.port-inside-is ∙ c.loop-route.invariant.1
    ]) c.take_down-in-None-gathered_behind.ensures.tally c.take_down-in-None-gathered_behind.ensures.answer
    (over_map (FollowsBehind (g.D.Driver.Follows None) c.args.pass.now.view.room) c.in-Some.map c.args.op.now c.routes_of-routes.result c.rows-rows.result.now (g.D.Port.Port.told c.args.port.now.inner) (g.D.Port.Port.told c.if-begin_visit.port-inside.inner) c.args.pass.now.view c.if-begin_visit.pass.view None c.rows-rows.ensures c.routes_of-routes.ensures.routes
    (turn_stopped g.D.Driver.ENTRIES g.D.Driver.OwnEntries g.D.Driver.Follows c.self.invariant c.args.op.now c.rows-rows.result.now (g.D.Port.Port.told c.args.port.now.inner) (g.D.Port.Port.told c.loop-route.port-inside.inner) (g.D.Port.Port.told c.if-begin_visit.port-inside.inner) c.loop-route.route-index no_route c.args.pass.now.view c.loop-route.pass.view c.if-begin_visit.pass.view c.loop-route.bits (omega (arith, c.loop-route-test.true)) c.loop-route.invariant.3 c.in-Some-asking_on.asking c.in-Some-asking_on.ensures.visit
    (g.D.Port.Port.maps c.loop-route.port-inside.inner) c.if-begin_visit.word c.in-None-gathered_behind.ensures
    (elim c.if-begin_visit.branch [
      | then-begin_visit y ↦
          visited core g.D.Driver.ENTRIES g.D.Driver.OwnEntries g.D.Driver.Follows c.in-Some-asking_on.asking (g.D.Port.Port.maps c.loop-route.port-inside.inner) (g.D.Port.Port.told c.loop-route.port-inside.inner) (g.D.Port.Port.told c.if-begin_visit.port-inside.inner) c.loop-route.pass.view c.if-begin_visit.pass.view c.if-begin_visit.word
          (g.D.Port.Port.told y.call.new.port) c.begin_visit.new.pass.view y.call.new.pass.view y.end_visit-word.new.pass.view (answer_of y.call.result) y.answer_in-answer.result y.end_visit-word.result
          (ap (λ p. g.D.Port.Port.told p.inner) y.port-inside-is) (ap (λ p. p.view) y.pass-is) y.word-is y.answer_in-answer.ensures y.if-begin_visit.ensures.begins y.call.ensures.drives y.end_visit-word.ensures.told
      | else-begin_visit y ↦
          not_begun core g.D.Driver.ENTRIES g.D.Driver.OwnEntries g.D.Driver.Follows c.in-Some-asking_on.asking (g.D.Port.Port.maps c.loop-route.port-inside.inner) (g.D.Port.Port.told c.loop-route.port-inside.inner) (g.D.Port.Port.told c.if-begin_visit.port-inside.inner) c.loop-route.pass.view c.if-begin_visit.pass.view c.if-begin_visit.word
          c.begin_visit.new.pass.view (ap (λ p. g.D.Port.Port.told p.inner) y.port-inside-is) (ap (λ p. p.view) y.pass-is) y.word-is y.if-begin_visit.ensures.begins
    ])))

pub loop-route-preserved : goal.loop-route-preserved
loop-route-preserved g c = (
  elim c.if-begin_visit.branch [
    | then-begin_visit y ↦ ap (λ p. p.gate) y.pass-is ∙ y.end_visit-word.ensures.gate
    | else-begin_visit y ↦ ap (λ p. p.gate) y.pass-is ∙ y.if-begin_visit.ensures.gate
  ],
  elim c.if-begin_visit.branch [
    | then-begin_visit y ↦ ap (λ p. p.tally) y.port-inside-is ∙ c.loop-route.invariant.1
    | else-begin_visit y ↦ ap (λ p. p.tally) y.port-inside-is ∙ c.loop-route.invariant.1
  ],
  elim c.if-begin_visit.branch [
    | then-begin_visit y ↦ ap (λ p. p.maps) y.port-inside-is ∙ c.loop-route.invariant.2
    | else-begin_visit y ↦ ap (λ p. p.maps) y.port-inside-is ∙ c.loop-route.invariant.2
  ],
  turn_passed g.D.Driver.ENTRIES g.D.Driver.OwnEntries g.D.Driver.Follows c.self.invariant c.args.op.now c.rows-rows.result.now (g.D.Port.Port.told c.args.port.now.inner) (g.D.Port.Port.told c.loop-route.port-inside.inner) (g.D.Port.Port.told c.if-begin_visit.port-inside.inner) c.loop-route.route-index no_route c.args.pass.now.view c.loop-route.pass.view c.if-begin_visit.pass.view c.loop-route.bits (omega (arith, c.loop-route-test.true)) c.loop-route.invariant.3 c.in-Some-asking_on.asking c.in-Some-asking_on.ensures.visit
      (g.D.Port.Port.maps c.loop-route.port-inside.inner) c.if-begin_visit.word c.in-Some-gathered_behind.more c.in-Some-asking_on.ensures.gets c.in-Some-gathered_behind.ensures
      (elim c.if-begin_visit.branch [
        | then-begin_visit y ↦
            visited core g.D.Driver.ENTRIES g.D.Driver.OwnEntries g.D.Driver.Follows c.in-Some-asking_on.asking (g.D.Port.Port.maps c.loop-route.port-inside.inner) (g.D.Port.Port.told c.loop-route.port-inside.inner) (g.D.Port.Port.told c.if-begin_visit.port-inside.inner) c.loop-route.pass.view c.if-begin_visit.pass.view c.if-begin_visit.word
            (g.D.Port.Port.told y.call.new.port) c.begin_visit.new.pass.view y.call.new.pass.view y.end_visit-word.new.pass.view (answer_of y.call.result) y.answer_in-answer.result y.end_visit-word.result
            (ap (λ p. g.D.Port.Port.told p.inner) y.port-inside-is) (ap (λ p. p.view) y.pass-is) y.word-is y.answer_in-answer.ensures y.if-begin_visit.ensures.begins y.call.ensures.drives y.end_visit-word.ensures.told
        | else-begin_visit y ↦
            not_begun core g.D.Driver.ENTRIES g.D.Driver.OwnEntries g.D.Driver.Follows c.in-Some-asking_on.asking (g.D.Port.Port.maps c.loop-route.port-inside.inner) (g.D.Port.Port.told c.loop-route.port-inside.inner) (g.D.Port.Port.told c.if-begin_visit.port-inside.inner) c.loop-route.pass.view c.if-begin_visit.pass.view c.if-begin_visit.word
            c.begin_visit.new.pass.view (ap (λ p. g.D.Port.Port.told p.inner) y.port-inside-is) (ap (λ p. p.view) y.pass-is) y.word-is y.if-begin_visit.ensures.begins
      ]),
)

pub returns-after-loop-route-clause-drives : goal.returns-after-loop-route-clause-drives
returns-after-loop-route-clause-drives g c = driven_at core (g.D.Driver.Follows None) c.in-Some.map c.args.op.now c.args.port.now.tally c.loop-route.port-inside.tally c.take_down-in-Some.new.self (g.D.Port.Port.told c.args.port.now.inner) (g.D.Port.Port.told c.loop-route.port-inside.inner) (Some c.loop-route.bits) (answer_of c.take_down-in-Some.result) (map_at c.args.place c.args.port.now.maps) c.args.pass.now.view c.loop-route.pass.view
    (fits_of c.port.inside.maps c.args.place c.in-Some.map c.port.invariant (sym c.map.ensures ∙ c.in-Some.is)) (ap (λ p. map_at c.args.place p.maps) (sym c.port.view_is) ∙ (sym c.map.ensures ∙ c.in-Some.is)) c.loop-route.invariant.1 c.take_down-in-Some.ensures.tally c.take_down-in-Some.ensures.answer
    (over_map (FollowsBehind (g.D.Driver.Follows None) c.args.pass.now.view.room) c.in-Some.map c.args.op.now c.routes_of-routes.result c.rows-rows.result.now (g.D.Port.Port.told c.args.port.now.inner) (g.D.Port.Port.told c.loop-route.port-inside.inner) c.args.pass.now.view c.loop-route.pass.view (Some c.loop-route.bits) c.rows-rows.ensures c.routes_of-routes.ensures.routes
    (done core (FollowsBehind (g.D.Driver.Follows None) c.args.pass.now.view.room) c.args.op.now c.rows-rows.result.now (g.D.Port.Port.told c.args.port.now.inner) (g.D.Port.Port.told c.loop-route.port-inside.inner) c.loop-route.route-index c.args.pass.now.view c.loop-route.pass.view c.loop-route.bits (omega (arith, c.loop-route-test.false)) c.loop-route.invariant.3))

pub returns-in-None-asking_on-clause-aggregates : goal.returns-in-None-asking_on-clause-aggregates
returns-in-None-asking_on-clause-aggregates g c = aggregates_at core (FollowsBehind (g.D.Driver.Follows None) c.args.pass.now.view.room) c.in-Some.map c.args.op.now (g.D.Port.Port.told c.args.port.now.inner) (g.D.Port.Port.told c.loop-route.port-inside.inner) c.args.pass.now.view c.loop-route.pass.view None (answer_of c.take_down.result) (map_at c.args.place c.args.port.now.maps)
    (ap (λ p. map_at c.args.place p.maps) (sym c.port.view_is) ∙ (sym c.map.ensures ∙ c.in-Some.is)) c.take_down.ensures.answer
    (over_map (FollowsBehind (g.D.Driver.Follows None) c.args.pass.now.view.room) c.in-Some.map c.args.op.now c.routes_of-routes.result c.rows-rows.result.now (g.D.Port.Port.told c.args.port.now.inner) (g.D.Port.Port.told c.loop-route.port-inside.inner) c.args.pass.now.view c.loop-route.pass.view None c.rows-rows.ensures c.routes_of-routes.ensures.routes
    (ends_unspelled core (FollowsBehind (g.D.Driver.Follows None) c.args.pass.now.view.room) c.args.op.now c.rows-rows.result.now (g.D.Port.Port.told c.args.port.now.inner) (g.D.Port.Port.told c.loop-route.port-inside.inner) c.loop-route.route-index no_route c.args.pass.now.view c.loop-route.pass.view c.loop-route.bits (omega (arith, c.loop-route-test.true)) c.loop-route.invariant.3 c.in-None-asking_on.ensures.visit))

pub returns-in-None-gathered_behind-clause-aggregates : goal.returns-in-None-gathered_behind-clause-aggregates
returns-in-None-gathered_behind-clause-aggregates g c =
    aggregates_at core (FollowsBehind (g.D.Driver.Follows None) c.args.pass.now.view.room) c.in-Some.map c.args.op.now (g.D.Port.Port.told c.args.port.now.inner) (g.D.Port.Port.told c.if-begin_visit.port-inside.inner) c.args.pass.now.view c.if-begin_visit.pass.view None (answer_of c.take_down-in-None-gathered_behind.result) (map_at c.args.place c.args.port.now.maps)
    (ap (λ p. map_at c.args.place p.maps) (sym c.port.view_is) ∙ (sym c.map.ensures ∙ c.in-Some.is)) c.take_down-in-None-gathered_behind.ensures.answer
    (over_map (FollowsBehind (g.D.Driver.Follows None) c.args.pass.now.view.room) c.in-Some.map c.args.op.now c.routes_of-routes.result c.rows-rows.result.now (g.D.Port.Port.told c.args.port.now.inner) (g.D.Port.Port.told c.if-begin_visit.port-inside.inner) c.args.pass.now.view c.if-begin_visit.pass.view None c.rows-rows.ensures c.routes_of-routes.ensures.routes
    (turn_stopped g.D.Driver.ENTRIES g.D.Driver.OwnEntries g.D.Driver.Follows c.self.invariant c.args.op.now c.rows-rows.result.now (g.D.Port.Port.told c.args.port.now.inner) (g.D.Port.Port.told c.loop-route.port-inside.inner) (g.D.Port.Port.told c.if-begin_visit.port-inside.inner) c.loop-route.route-index no_route c.args.pass.now.view c.loop-route.pass.view c.if-begin_visit.pass.view c.loop-route.bits (omega (arith, c.loop-route-test.true)) c.loop-route.invariant.3 c.in-Some-asking_on.asking c.in-Some-asking_on.ensures.visit
    (g.D.Port.Port.maps c.loop-route.port-inside.inner) c.if-begin_visit.word c.in-None-gathered_behind.ensures
    (elim c.if-begin_visit.branch [
      | then-begin_visit y ↦
          visited core g.D.Driver.ENTRIES g.D.Driver.OwnEntries g.D.Driver.Follows c.in-Some-asking_on.asking (g.D.Port.Port.maps c.loop-route.port-inside.inner) (g.D.Port.Port.told c.loop-route.port-inside.inner) (g.D.Port.Port.told c.if-begin_visit.port-inside.inner) c.loop-route.pass.view c.if-begin_visit.pass.view c.if-begin_visit.word
          (g.D.Port.Port.told y.call.new.port) c.begin_visit.new.pass.view y.call.new.pass.view y.end_visit-word.new.pass.view (answer_of y.call.result) y.answer_in-answer.result y.end_visit-word.result
          (ap (λ p. g.D.Port.Port.told p.inner) y.port-inside-is) (ap (λ p. p.view) y.pass-is) y.word-is y.answer_in-answer.ensures y.if-begin_visit.ensures.begins y.call.ensures.drives y.end_visit-word.ensures.told
      | else-begin_visit y ↦
          not_begun core g.D.Driver.ENTRIES g.D.Driver.OwnEntries g.D.Driver.Follows c.in-Some-asking_on.asking (g.D.Port.Port.maps c.loop-route.port-inside.inner) (g.D.Port.Port.told c.loop-route.port-inside.inner) (g.D.Port.Port.told c.if-begin_visit.port-inside.inner) c.loop-route.pass.view c.if-begin_visit.pass.view c.if-begin_visit.word
          c.begin_visit.new.pass.view (ap (λ p. g.D.Port.Port.told p.inner) y.port-inside-is) (ap (λ p. p.view) y.pass-is) y.word-is y.if-begin_visit.ensures.begins
    ])))

pub returns-after-loop-route-clause-aggregates : goal.returns-after-loop-route-clause-aggregates
returns-after-loop-route-clause-aggregates g c = aggregates_at core (FollowsBehind (g.D.Driver.Follows None) c.args.pass.now.view.room) c.in-Some.map c.args.op.now (g.D.Port.Port.told c.args.port.now.inner) (g.D.Port.Port.told c.loop-route.port-inside.inner) c.args.pass.now.view c.loop-route.pass.view (Some c.loop-route.bits) (answer_of c.take_down-in-Some.result) (map_at c.args.place c.args.port.now.maps)
    (ap (λ p. map_at c.args.place p.maps) (sym c.port.view_is) ∙ (sym c.map.ensures ∙ c.in-Some.is)) c.take_down-in-Some.ensures.answer
    (over_map (FollowsBehind (g.D.Driver.Follows None) c.args.pass.now.view.room) c.in-Some.map c.args.op.now c.routes_of-routes.result c.rows-rows.result.now (g.D.Port.Port.told c.args.port.now.inner) (g.D.Port.Port.told c.loop-route.port-inside.inner) c.args.pass.now.view c.loop-route.pass.view (Some c.loop-route.bits) c.rows-rows.ensures c.routes_of-routes.ensures.routes
    (done core (FollowsBehind (g.D.Driver.Follows None) c.args.pass.now.view.room) c.args.op.now c.rows-rows.result.now (g.D.Port.Port.told c.args.port.now.inner) (g.D.Port.Port.told c.loop-route.port-inside.inner) c.loop-route.route-index c.args.pass.now.view c.loop-route.pass.view c.loop-route.bits (omega (arith, c.loop-route-test.false)) c.loop-route.invariant.3))

pub returns-in-None-asking_on-clause-passes_on : goal.returns-in-None-asking_on-clause-passes_on
returns-in-None-asking_on-clause-passes_on g c none = has_map c.in-Some.map (map_at c.args.place c.args.port.now.maps) (ap (λ p. map_at c.args.place p.maps) (sym c.port.view_is) ∙ (sym c.map.ensures ∙ c.in-Some.is)) none

pub returns-in-None-gathered_behind-clause-passes_on : goal.returns-in-None-gathered_behind-clause-passes_on
returns-in-None-gathered_behind-clause-passes_on g c none = has_map c.in-Some.map (map_at c.args.place c.args.port.now.maps) (ap (λ p. map_at c.args.place p.maps) (sym c.port.view_is) ∙ (sym c.map.ensures ∙ c.in-Some.is)) none

pub returns-after-loop-route-clause-passes_on : goal.returns-after-loop-route-clause-passes_on
returns-after-loop-route-clause-passes_on g c none = has_map c.in-Some.map (map_at c.args.place c.args.port.now.maps) (ap (λ p. map_at c.args.place p.maps) (sym c.port.view_is) ∙ (sym c.map.ensures ∙ c.in-Some.is)) none
