use Rattle.std.proofs.Common.{◌≡◌, ◌+◌, ◌≤◌, drop}
use Rattle.gl_simtree.specs.Rows.{bank_number}
use Rattle.gl_simtree.proofs.search.bank_number.Given as goal

-- the banks before it so far, and those that are left
abbrev pub invariant-loop-row : goal.invariant-loop-row
invariant-loop-row l = (l.number + bank_number l.device l.bank (drop l.row-index l.rows) ≡ bank_number l.device l.bank l.rows) × (l.number ≤ l.row-index)
