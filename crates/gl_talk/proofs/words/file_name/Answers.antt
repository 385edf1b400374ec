use Rattle.gl_talk.proofs.Copies.{second_there}
use Rattle.gl_talk.proofs.words.file_name.Goals as goal

pub word-requires : goal.word-requires
word-requires c = second_there c.args.line.now c.requires
