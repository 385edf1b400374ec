use Rattle.gl_debounce.proofs.Padding.{no_rows}
use Rattle.gl_debounce.proofs.table.Timers.new.Goals as goal

pub returns-clause-ok : goal.returns-clause-ok
returns-clause-ok c = no_rows c.in_ok-rows.rows c.in_ok-rows.ensures.ok
