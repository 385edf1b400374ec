use Rattle.std.proofs.Common.{◌≡◌, ◌≤◌, length, ap, ◌∙◌, arith, rules}
use Rattle.std.specs.Prelude.{◌==◌, if◌then◌else◌}
use Rattle.gl_base.specs.declared.limits.TheConstants.{PLACES}
use Rattle.gl_model.specs.Removal.{without_deadlines}
use Rattle.gl_core.specs.Chosen.{is_chosen}
use Rattle.gl_core.proofs.ClearingDeadlines.{all_places, no_place_yet, places_more}
use Rattle.gl_core.proofs.chosen.clear_running.Goals as goal

pub loop-place-init : goal.loop-place-init
loop-place-init c = no_place_yet (is_chosen c.args.places.now) c.args.timers.now

pub loop-place-preserved : goal.loop-place-preserved
loop-place-preserved c =
    let marks = c.args.places.now in
    let timers = c.args.timers.now in
    let place = c.loop-place.place in
    c.clear_place_if.ensures
    ∙ ap (λ n. if is_chosen marks n then without_deadlines (λ p. p == place) c.loop-place.timers else c.loop-place.timers) c.from.ensures
    ∙ ap (λ now. if is_chosen marks place then without_deadlines (λ p. p == place) now else now) c.loop-place.invariant
    ∙ places_more (is_chosen marks) place timers

pub returns : goal.returns
returns c =
    let size : length c.args.places.now ≡ PLACES = search rules in
    let all : length c.args.places.now ≤ c.loop-place.place = omega (arith, size, c.loop-place-test.false) in
    c.loop-place.invariant ∙ all_places c.args.places.now c.loop-place.place c.args.timers.now all
