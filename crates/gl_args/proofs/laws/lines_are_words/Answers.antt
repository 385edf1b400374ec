use Rattle.gl_args.proofs.LineCounts.{words_few}
use Rattle.gl_args.proofs.laws.lines_are_words.Goals as goal

pub returns : goal.returns
returns c = words_few
