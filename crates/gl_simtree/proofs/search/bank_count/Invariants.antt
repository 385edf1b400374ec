use Rattle.std.proofs.Common.{◌≡◌, ◌+◌, ◌≤◌, drop, length}
use Rattle.gl_simtree.specs.Rows.{banks_of}
use Rattle.gl_simtree.proofs.search.bank_count.Given as goal

-- the banks so far, and those that are left
abbrev pub invariant-loop-row : goal.invariant-loop-row
invariant-loop-row l = (l.count + length (banks_of l.device (drop l.row-index l.rows)) ≡ length (banks_of l.device l.rows)) × (l.count ≤ l.row-index)
