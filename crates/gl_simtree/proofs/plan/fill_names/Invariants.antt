use Rattle.std.proofs.Common.{◌≡◌, ◌-◌, ◌≤◌, ◌++◌, length, vec_capacity}
use Rattle.gl_base.specs.declared.limits.TheConstants.{LINES_MAX}
use Rattle.gl_simtree.specs.Plans.{names_from}
use Rattle.gl_simtree.proofs.plan.fill_names.Given as goal

-- the names so far, and those of the lines that are left
abbrev pub invariant-loop-offset : goal.invariant-loop-offset
invariant-loop-offset l =
    (l.names.items ++ names_from l.device l.bank l.rows l.offset (l.lines - l.offset) ≡ names_from l.device l.bank l.rows 0 l.lines)
    × (length l.names.items ≤ l.offset) × (l.lines ≤ LINES_MAX) × (LINES_MAX ≤ vec_capacity l.names)
    × (vec_capacity l.names ≡ vec_capacity l.initial.names)
