use Rattle.std.proofs.Common.{◌≡◌, drop, length}
use Rattle.gl_base.specs.declared.limits.TheConstants.{LINES_MAX}
use Rattle.gl_simtree.specs.BankRows.{AreFound}
use Rattle.gl_simtree.specs.declared.node.Directory.TheVariants.{Line, Hog}
use Rattle.gl_simtree.proofs.bank_rows.BankRows.of.Given as goal

-- what was found among the rows from this one on
abbrev pub invariant-loop-at : goal.invariant-loop-at
invariant-loop-at l =
    AreFound (Line l.device l.bank) l.rows (drop l.at l.rows) l.lines
    × AreFound (Hog l.device l.bank) l.rows (drop l.at l.rows) l.hogs
    × (length l.lines ≡ LINES_MAX) × (length l.hogs ≡ LINES_MAX)
