-- Some rows have been made: the table of all lines is the same.
use Rattle.std.proofs.Common.{◌≡◌, ◌-◌, length, vec_capacity}
use Rattle.gl_debounce.specs.Order.{AreRows}
use Rattle.gl_debounce.specs.Timer.{all_lines, timers_of}
use Rattle.gl_debounce.proofs.rows.make_rows.Given as goal

abbrev pub invariant-loop-levels : goal.invariant-loop-levels
invariant-loop-levels l =
    (all_lines (timers_of l.levels.items l.deadlines) ≡ all_lines (timers_of l.initial.levels.items l.initial.deadlines))
    × AreRows l.levels.items l.deadlines (vec_capacity l.levels)

abbrev pub decreases-loop-levels : goal.decreases-loop-levels
decreases-loop-levels l = l.count - length l.levels.items
