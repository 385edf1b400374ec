use Rattle.gl_script.proofs.Back.{sentence}
use Rattle.gl_script.proofs.laws.spelled_are_sentences.Goals as goal

pub returns : goal.returns
returns c = sentence
