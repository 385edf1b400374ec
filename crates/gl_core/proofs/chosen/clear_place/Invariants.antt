use Rattle.std.proofs.Common.{◌≡◌, ◌+◌, ◌*◌}
use Rattle.std.specs.Prelude.{◌/◌, ◌==◌}
use Rattle.std.specs.Option.{option_map}
use Rattle.gl_base.specs.declared.limits.TheConstants.{LINES_MAX}
use Rattle.gl_debounce.specs.Timer.{without_deadline}
use Rattle.gl_model.specs.Removal.{change_where}
use Rattle.gl_core.proofs.Choosing.{front}
use Rattle.gl_core.proofs.chosen.clear_place.Given as goal

-- no deadline of the first lines of the place runs any more
abbrev pub invariant-loop-offset : goal.invariant-loop-offset
invariant-loop-offset l =
    l.timers ≡ change_where (front (l.place * LINES_MAX + l.offset) (λ n. n / LINES_MAX == l.place)) (option_map without_deadline) 0 l.initial.timers
