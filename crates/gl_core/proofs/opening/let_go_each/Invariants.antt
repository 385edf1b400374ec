use Rattle.std.proofs.Common.{◌≡◌, drop}
use Rattle.gl_model.specs.Opening.{with_timers_let_go}
use Rattle.gl_core.proofs.opening.let_go_each.Given as goal

-- what is left to let go of makes the whole
abbrev pub invariant-loop-offset : goal.invariant-loop-offset
invariant-loop-offset l =
    with_timers_let_go l.place (drop l.offset-index l.offsets) l.timers ≡ with_timers_let_go l.place l.offsets l.initial.timers
