use Rattle.std.proofs.Common.{ap, ◌∙◌}
use Rattle.std.specs.Prelude.{if◌then◌else◌}
use Rattle.gl_base.specs.Positions.{change_at}
use Rattle.gl_registry.specs.Chips.{moved_on, no_chip}
use Rattle.gl_core.specs.Chosen.{is_chosen}
use Rattle.gl_core.proofs.Choosing.{none_yet, one_more}
use Rattle.gl_core.proofs.chosen.move_on.Goals as goal

pub loop-place-init : goal.loop-place-init
loop-place-init c = none_yet (is_chosen c.args.places.now) moved_on c.args.chips.now

pub loop-place-preserved : goal.loop-place-preserved
loop-place-preserved c =
    c.go_on_if.ensures
    ∙ ap (λ place. if is_chosen c.args.places.now place then change_at no_chip c.loop-place.place moved_on c.loop-place.chips else c.loop-place.chips) c.from.ensures
    ∙ one_more (is_chosen c.args.places.now) moved_on no_chip c.loop-place.place c.args.chips.now c.loop-place.chips c.loop-place.invariant
