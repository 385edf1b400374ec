use Rattle.std.proofs.Common.{◌≡◌}
use Rattle.std.specs.Prelude.{vec_capacity}
use Rattle.gl_model.specs.Removal.{change_where, removed_by}
use Rattle.gl_core.specs.Chosen.{chosen_below}
use Rattle.gl_core.proofs.chosen.set_remover.Given as goal

-- those of the first places are removed by the actor
abbrev pub invariant-loop-place : goal.invariant-loop-place
invariant-loop-place l =
    (l.origins.items ≡ change_where (chosen_below l.place l.places) (removed_by l.actor) 0 l.initial.origins.items)
    × (vec_capacity l.origins ≡ vec_capacity l.initial.origins)
