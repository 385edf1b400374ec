use Rattle.std.proofs.Common.{ap, ◌∙◌, refl}
use Rattle.std.specs.Prelude.{if◌then◌else◌}
use Rattle.gl_base.specs.Positions.{change_at}
use Rattle.gl_model.specs.Places.{no_origin}
use Rattle.gl_model.specs.Removal.{removed_by}
use Rattle.gl_core.specs.Chosen.{is_chosen}
use Rattle.gl_core.proofs.Choosing.{none_yet, one_more}
use Rattle.gl_core.proofs.chosen.set_remover.Goals as goal

pub loop-place-init : goal.loop-place-init
loop-place-init c = (none_yet (is_chosen c.args.places.now) (removed_by c.args.actor) c.args.origins.now.items, refl)

pub loop-place-preserved : goal.loop-place-preserved
loop-place-preserved c =
    let f = removed_by c.args.actor in
    let items = c.loop-place.origins.items in (
      c.set_remover_if.ensures.origins
          ∙ ap (λ place. if is_chosen c.args.places.now place then change_at no_origin c.loop-place.place f items else items) c.from.ensures
          ∙ one_more (is_chosen c.args.places.now) f no_origin c.loop-place.place c.args.origins.now.items items c.loop-place.invariant.0,
      c.set_remover_if.ensures.capacity ∙ c.loop-place.invariant.1,
    )
