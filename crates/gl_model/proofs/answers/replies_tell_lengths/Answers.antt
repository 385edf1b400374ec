use Rattle.gl_model.proofs.LegalLengths.{legal_replies_tell_lengths}
use Rattle.gl_model.proofs.Written as written
use Rattle.gl_model.proofs.answers.replies_tell_lengths.Goals as goal

pub returns : goal.returns
returns g c = record { of_a_step = written.replies_tell_lengths; behind_a_history = legal_replies_tell_lengths g.K.Image.stands_for }
