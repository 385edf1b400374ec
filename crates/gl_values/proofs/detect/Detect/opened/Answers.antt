use Rattle.std.proofs.Common.{refl}
use Rattle.gl_values.proofs.detect.Detect.opened.Goals as goal

pub returns-in-None-clause-goes : goal.returns-in-None-clause-goes
returns-in-None-clause-goes c = rw (c.in-None.is, c.chip_query.ensures) refl
