use Rattle.std.proofs.Common.{rules, tests}
use Rattle.std.proofs.lemmas.Iterator.Consumers.{YieldsList-from_deque}
use Rattle.std.proofs.lemmas.Iterator.Search.{find_from_yields_List}
use Rattle.gl_watch.specs.Files.{is_file}
use Rattle.gl_watch.proofs.table.file_at.Goals as goal

pub returns : goal.returns
returns c = find_from_yields_List (is_file c.args.fd) _ _ _ c.find.ensures.ran (YieldsList-from_deque c.args.files.now.items cc) (λ x b q k. search (rules, tests))
