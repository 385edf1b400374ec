use Rattle.gl_uapi.proofs.ValuesLaws.{values_spelled}
use Rattle.gl_uapi.proofs.laws.values_are_read_back.Goals as goal

pub returns : goal.returns
returns c = values_spelled
