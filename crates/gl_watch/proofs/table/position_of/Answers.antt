use Rattle.std.proofs.Common.{rules, tests}
use Rattle.std.proofs.lemmas.Iterator.Consumers.{YieldsList-from_deque}
use Rattle.std.proofs.lemmas.Iterator.Search.{position_from_yields_List}
use Rattle.gl_watch.specs.Files.{is_file}
use Rattle.gl_watch.proofs.table.position_of.Goals as goal

pub returns : goal.returns
returns c = position_from_yields_List (is_file c.args.fd) _ _ _ c.position.ensures.ran (YieldsList-from_deque c.args.files.now.items cc) (λ x b q k. search (rules, tests))
