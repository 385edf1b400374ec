use Rattle.gl_attrs.proofs.Told.{fewer_faultless, line_faultless}
use Rattle.gl_attrs.proofs.laws.faultless_for_each_line.Goals as goal

pub returns : goal.returns
returns c = record { line = line_faultless; fewer = fewer_faultless }
