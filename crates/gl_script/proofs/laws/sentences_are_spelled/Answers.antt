use Rattle.gl_script.proofs.Spelling.{spelled}
use Rattle.gl_script.proofs.laws.sentences_are_spelled.Goals as goal

pub returns : goal.returns
returns c = spelled
