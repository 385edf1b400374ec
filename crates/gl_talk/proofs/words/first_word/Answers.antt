use Rattle.gl_talk.proofs.Copies.{first_there}
use Rattle.gl_talk.proofs.words.first_word.Goals as goal

pub word-requires : goal.word-requires
word-requires c = first_there c.args.line.now
