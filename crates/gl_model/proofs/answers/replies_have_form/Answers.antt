use Rattle.gl_model.proofs.Replies as replies
use Rattle.gl_model.proofs.answers.replies_have_form.Goals as goal

pub returns : goal.returns
returns g c = record { of_a_step = replies.replies_have_form; of_entries = replies.entries_have_form g.K.Image.stands_for }
