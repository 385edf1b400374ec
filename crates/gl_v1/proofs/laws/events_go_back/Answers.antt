use Rattle.gl_v1.proofs.BackLaws.{each_event_back}
use Rattle.gl_v1.proofs.laws.events_go_back.Goals as goal

pub returns : goal.returns
returns c = each_event_back
