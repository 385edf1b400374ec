use Rattle.std.proofs.Common.{◌≡◌, ◌+◌, ◌≤◌, min, drop, map}
use Rattle.gl_script.specs.Cost.{statements_cost}
use Rattle.gl_script.specs.Meaning.{said_in}
use Rattle.gl_script.proofs.cost.sections_cost.Given as goal
use Rattle.gl_base.specs.declared.limits.TheConstants.{COST_MAX}

abbrev pub invariant-loop-section : goal.invariant-loop-section
invariant-loop-section l =
    (min (l.total + statements_cost (map said_in (drop l.section-index l.sections))) (COST_MAX + 1) ≡ min (statements_cost (map said_in l.sections)) (COST_MAX + 1))
    × (l.total ≤ COST_MAX + 1)
