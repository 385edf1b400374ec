use Rattle.std.proofs.Common.{rules, tests}
use Rattle.std.proofs.lemmas.Iterator.{YieldsList-from_slice}
use Rattle.std.proofs.lemmas.Iterator.Search.{find_from_yields_List}
use Rattle.gl_script.specs.Table.{is_keyword}
use Rattle.gl_script.proofs.table.keyword_among.Goals as goal

pub returns : goal.returns
returns c = find_from_yields_List (is_keyword c.args.word.now) _ _ _ c.find.ensures.ran (YieldsList-from_slice c.args.keywords.now cc) (λ x b q k. search (rules, tests))
