use Rattle.std.proofs.Common.{List, length, sym, subst, ap, ◌∙◌}
use Rattle.gl_registry.specs.declared.registry.Chip.{Chip}
use Rattle.gl_model.specs.declared.place.Origin.{Origin}
use Rattle.gl_model.specs.Removal.{removed_by}
use Rattle.gl_core.specs.Chosen.{is_chosen}
use Rattle.gl_core.specs.Shape.{IsShaped, IsWithin}
use Rattle.gl_core.proofs.Removing.{length_where, shape_moved}
use Rattle.gl_core.proofs.state.State.leave_at.Goals as goal

pub invariant_of-self : goal.invariant_of-self
invariant_of-self c =
    let s = c.self.inside in
    let test = is_chosen c.args.places.now in (
      subst (λ (chips : List Chip). IsShaped chips c.set_remover.new.origins.items s.places) (sym c.move_on.ensures)
          (shape_moved test s.chips s.origins.items c.set_remover.new.origins.items s.places
          (ap (λ (l : List Origin). length l) c.set_remover.ensures.origins ∙ length_where test (removed_by c.args.actor) 0 s.origins.items) c.self.invariant.0),
      subst (λ n. IsWithin n s.mono) (sym c.set_remover.ensures.capacity) c.self.invariant.1,
    )
