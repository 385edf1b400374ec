use Rattle.std.proofs.Common.{◌≡◌}
use Rattle.gl_model.specs.Removal.{change_where}
use Rattle.gl_registry.specs.Chips.{moved_on}
use Rattle.gl_core.specs.Chosen.{chosen_below}
use Rattle.gl_core.proofs.chosen.move_on.Given as goal

-- those of the first places have gone on
abbrev pub invariant-loop-place : goal.invariant-loop-place
invariant-loop-place l = l.chips ≡ change_where (chosen_below l.place l.places) moved_on 0 l.initial.chips
