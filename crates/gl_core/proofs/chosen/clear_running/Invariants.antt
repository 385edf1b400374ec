use Rattle.std.proofs.Common.{◌≡◌}
use Rattle.gl_model.specs.Removal.{without_deadlines}
use Rattle.gl_core.specs.Chosen.{chosen_below}
use Rattle.gl_core.proofs.chosen.clear_running.Given as goal

-- no deadline of a line of those of the first places runs any more
abbrev pub invariant-loop-place : goal.invariant-loop-place
invariant-loop-place l = l.timers ≡ without_deadlines (chosen_below l.place l.places) l.initial.timers
