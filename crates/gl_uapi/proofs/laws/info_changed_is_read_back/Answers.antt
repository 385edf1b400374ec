use Rattle.gl_uapi.proofs.ChangedLaws.{changed_read, changed_written}
use Rattle.gl_uapi.proofs.laws.info_changed_is_read_back.Goals as goal

pub returns : goal.returns
returns c = record { written = changed_written; read = changed_read }
