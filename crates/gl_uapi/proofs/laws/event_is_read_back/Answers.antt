use Rattle.gl_uapi.proofs.EventLaws.{event_read, event_spelled}
use Rattle.gl_uapi.proofs.laws.event_is_read_back.Goals as goal

pub returns : goal.returns
returns c = record { written = event_spelled; read = event_read }
