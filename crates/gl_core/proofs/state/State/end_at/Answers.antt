use Rattle.std.proofs.Common.{List, refl, sym, subst}
use Rattle.gl_registry.specs.declared.registry.Chip.{Chip}
use Rattle.gl_core.specs.Chosen.{is_chosen}
use Rattle.gl_core.specs.Shape.{IsShaped}
use Rattle.gl_core.proofs.Removing.{shape_moved}
use Rattle.gl_core.proofs.state.State.end_at.Goals as goal

pub invariant_of-self : goal.invariant_of-self
invariant_of-self c =
    let s = c.self.inside in (
      subst (λ (chips : List Chip). IsShaped chips s.origins.items s.places) (sym c.move_on.ensures)
          (shape_moved (is_chosen c.args.places.now) s.chips s.origins.items s.origins.items s.places refl c.self.invariant.0),
      c.self.invariant.1,
    )
