use Rattle.std.proofs.Common.{sym}
use Rattle.gl_debounce.proofs.Padding.{size_told}
use Rattle.gl_debounce.proofs.table.Timers.len.Goals as goal

pub returns-clause-len : goal.returns-clause-len
returns-clause-len c = sym (size_told c.self.inside.rows c.args.self.now c.self.view_is c.are_within.ensures)
