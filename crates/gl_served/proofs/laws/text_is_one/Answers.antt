use Rattle.gl_served.proofs.Whole.{text_is_one}
use Rattle.gl_served.proofs.laws.text_is_one.Goals as goal

pub returns : goal.returns
returns c = text_is_one
