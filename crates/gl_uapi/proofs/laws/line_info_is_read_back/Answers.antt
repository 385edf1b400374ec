use Rattle.gl_uapi.proofs.InfoLaws.{info_read, info_written}
use Rattle.gl_uapi.proofs.laws.line_info_is_read_back.Goals as goal

pub returns : goal.returns
returns c = record { written = info_written; read = info_read }
