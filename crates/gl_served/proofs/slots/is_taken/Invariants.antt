use Rattle.std.proofs.Common.{◌≡◌, drop, map}
use Rattle.gl_asking.specs.Rows.{row_file}
use Rattle.gl_served.specs.Slots.{is_taken}
use Rattle.gl_served.proofs.slots.is_taken.Given as goal

abbrev pub invariant-loop-row : goal.invariant-loop-row
invariant-loop-row l = is_taken l.pair (map row_file (drop l.row-index l.rows)) ≡ is_taken l.pair (map row_file l.rows)
