use Rattle.gl_debounce.proofs.GoingOn.{goes_on}
use Rattle.gl_debounce.proofs.laws.lines_fire_one_by_one.Goals as goal

pub returns : goal.returns
returns c = goes_on
