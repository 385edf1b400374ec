use Rattle.gl_talk.proofs.Copies.{third_there}
use Rattle.gl_talk.proofs.words.started_word.Goals as goal

pub word-requires : goal.word-requires
word-requires c = (third_there c.args.line.now c.requires).0
