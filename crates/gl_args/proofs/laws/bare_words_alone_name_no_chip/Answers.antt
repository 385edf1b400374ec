use Rattle.gl_args.proofs.BareWords.{bare_tool}
use Rattle.gl_args.proofs.laws.bare_words_alone_name_no_chip.Goals as goal

pub returns : goal.returns
returns c = bare_tool
