use Rattle.std.proofs.Common.{map, take}
use Rattle.gl_asking.specs.Rows.{IsRow, row_file}
use Rattle.gl_base.specs.Rows.{Each}
use Rattle.gl_check.specs.One.{PlannedPort, Standing}
use Rattle.gl_served.specs.Alone.{StandsAs}
use Rattle.gl_served.specs.Closing.{closes}
use Rattle.gl_served.proofs.alone.Alone.close_rows.Given as goal

-- the files so far are closed
abbrev pub invariant-loop-row : goal.invariant-loop-row
invariant-loop-row l =
    Each IsRow l.self.rows.items × ((s : Standing PlannedPort) → StandsAs l.fn.self s → StandsAs l.self (closes (map row_file (take l.row-index l.rows)) s))
