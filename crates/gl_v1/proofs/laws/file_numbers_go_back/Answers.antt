use Rattle.gl_v1.proofs.BackLaws.{event_number_back, handle_number_back}
use Rattle.gl_v1.proofs.laws.file_numbers_go_back.Goals as goal

pub returns : goal.returns
returns c = record { handle = handle_number_back; event = event_number_back }
