use Rattle.gl_uapi.proofs.ChipLaws.{chip_spelled}
use Rattle.gl_uapi.proofs.NameFields.{length-field_of}
use Rattle.gl_uapi.proofs.laws.chip_info_is_read_back.Goals as goal

pub returns : goal.returns
returns c name label lines n l fits = chip_spelled name label lines (length-field_of name n) (length-field_of label l) fits
