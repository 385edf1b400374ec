use Rattle.std.proofs.Common.{refl}
use Rattle.gl_attrs.proofs.Told.{line_told, past_told}
use Rattle.gl_attrs.proofs.laws.settings_are_told.Goals as goal

pub returns : goal.returns
returns c = record { count = λ config n. refl; line = line_told; past = past_told }
