use Rattle.std.proofs.Common.{◌≡◌, ◌-◌, ◌≤◌, ◌++◌, length, vec_capacity}
use Rattle.gl_base.specs.declared.limits.TheConstants.{LINES_MAX}
use Rattle.gl_simtree.specs.Plans.{hogs_from}
use Rattle.gl_simtree.proofs.plan.fill_hogs.Given as goal

-- the hogs so far, and those of the lines that are left
abbrev pub invariant-loop-offset : goal.invariant-loop-offset
invariant-loop-offset l =
    (l.hogs.items ++ hogs_from l.device l.bank l.rows l.offset (l.lines - l.offset) ≡ hogs_from l.device l.bank l.rows 0 l.lines)
    × (length l.hogs.items ≤ l.offset) × (l.lines ≤ LINES_MAX) × (LINES_MAX ≤ vec_capacity l.hogs)
    × (vec_capacity l.hogs ≡ vec_capacity l.initial.hogs)
