use Rattle.gl_trace.proofs.Legal.{legal_entries_have_texts}
use Rattle.gl_trace.proofs.laws.legal_entries_have_texts.Goals as goal

pub returns : goal.returns
returns g c = legal_entries_have_texts g.K.Image.stands_for
