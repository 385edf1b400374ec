use Rattle.std.proofs.Common.{rules, tests}
use Rattle.std.proofs.lemmas.Iterator.{YieldsList-from_slice}
use Rattle.std.proofs.lemmas.Iterator.Search.{find_from_yields_List}
use Rattle.gl_trace.specs.ReplyRead.{is_errno}
use Rattle.gl_trace.proofs.reply_read.errno_among.Goals as goal

pub returns : goal.returns
returns c = find_from_yields_List (is_errno c.args.text.now) _ _ _ c.find.ensures.ran (YieldsList-from_slice c.args.errnos.now cc) (λ x b q k. search (rules, tests))
