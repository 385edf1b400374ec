use Rattle.std.proofs.Common.{ap, vec_capacity}
use Rattle.gl_debounce.specs.Timer.{timers_of}
use Rattle.gl_debounce.proofs.Joining.{no_rows_yet}
use Rattle.gl_debounce.proofs.rows.Rows.new.Goals as goal

pub invariant_of-result : goal.invariant_of-result
invariant_of-result c =
    no_rows_yet c.in_ok-levels.levels.items c.in_ok-deadlines.deadlines (vec_capacity c.in_ok-levels.levels) c.in_ok-levels.ensures.items c.in_ok-deadlines.ensures.ok c.in_ok-levels.ensures.exact

pub returns-clause-ok : goal.returns-clause-ok
returns-clause-ok c = ap (λ ls. timers_of ls c.in_ok-deadlines.deadlines) c.in_ok-levels.ensures.items
