use Rattle.gl_uapi.proofs.NameFields.{name_in-field_of}
use Rattle.gl_uapi.proofs.laws.name_is_read_back.Goals as goal

pub returns : goal.returns
returns c = name_in-field_of
