use Rattle.std.proofs.Common.{subst}
use Rattle.gl_debounce.specs.Timer.{HardLinesAreStill}
use Rattle.gl_debounce.proofs.rows.Rows.are_still.Goals as goal

pub returns : goal.returns
returns c = subst HardLinesAreStill c.self.view_is c.self.invariant.still
