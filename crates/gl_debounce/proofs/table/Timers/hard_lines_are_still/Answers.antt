use Rattle.gl_debounce.proofs.Padding.{still_told}
use Rattle.gl_debounce.proofs.table.Timers.hard_lines_are_still.Goals as goal

pub returns : goal.returns
returns c = still_told c.self.inside.rows c.args.self.now c.self.view_is c.are_still.ensures
