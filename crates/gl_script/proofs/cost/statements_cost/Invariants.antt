use Rattle.std.proofs.Common.{◌≡◌, ◌+◌, ◌≤◌, min, drop, map}
use Rattle.std.specs.Prelude.{sum_by}
use Rattle.gl_script.specs.Cost.{statement_cost}
use Rattle.gl_script.specs.Meaning.{line_in}
use Rattle.gl_script.proofs.cost.statements_cost.Given as goal
use Rattle.gl_base.specs.declared.limits.TheConstants.{COST_MAX}

abbrev pub invariant-loop-statement : goal.invariant-loop-statement
invariant-loop-statement l =
    (min (l.total + sum_by statement_cost (map line_in (drop l.statement-index l.statements))) (COST_MAX + 1) ≡ min (sum_by statement_cost (map line_in l.statements)) (COST_MAX + 1))
    × (l.total ≤ COST_MAX + 1)
