use Rattle.std.proofs.Common.{◌+◌, List, length, ap, sym, subst, ◌∙◌}
use Rattle.std.proofs.lemmas.List.{length_push}
use Rattle.gl_model.specs.declared.place.Place.{Place}
use Rattle.gl_core.specs.Shape.{AreNew}
use Rattle.gl_core.proofs.Spare.{new_pushed}
use Rattle.gl_core.proofs.places.waiting_places.Goals as goal

pub loop-place-preserved : goal.loop-place-preserved
loop-place-preserved c =
    let so_far = c.loop-place.invariant in
    let items = c.push_within.ensures.items in (
      ap (λ (l : List Place). length l) items ∙ length_push c.loop-place.places.items c.in_ok-waiting_place.field-0 ∙ ap (λ n. n + 1) so_far.0,
      c.push_within.ensures.capacity ∙ so_far.1,
      subst AreNew (sym items) (new_pushed c.loop-place.places.items c.in_ok-waiting_place.field-0 so_far.2 c.in_ok-waiting_place.ensures.ok),
    )
