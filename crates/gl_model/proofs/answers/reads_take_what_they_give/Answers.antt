use Rattle.gl_model.proofs.Taking.{reads_take_changes, reads_take_events}
use Rattle.gl_model.proofs.answers.reads_take_what_they_give.Goals as goal

pub returns : goal.returns
returns c = record { events = reads_take_events; changes = reads_take_changes }
