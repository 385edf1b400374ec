use Rattle.std.proofs.Common.{◌≡◌, drop}
use Rattle.std.specs.Prelude.{slice_get}
use Rattle.gl_simtree.specs.Rows.{banks_of}
use Rattle.gl_simtree.proofs.search.bank_at.Given as goal

-- which of those that are left it is
abbrev pub invariant-loop-row : goal.invariant-loop-row
invariant-loop-row l = slice_get (banks_of l.device (drop l.row-index l.rows)) l.left ≡ slice_get (banks_of l.device l.rows) l.number
