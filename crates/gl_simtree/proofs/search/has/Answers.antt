use Rattle.std.proofs.Common.{rules, tests}
use Rattle.std.proofs.lemmas.Iterator.{YieldsList-from_slice}
use Rattle.std.proofs.lemmas.Iterator.Search.{any_from_yields_List}
use Rattle.gl_simtree.specs.Rows.{is_row_of}
use Rattle.gl_simtree.proofs.search.has.Goals as goal

pub returns : goal.returns
returns c = any_from_yields_List (is_row_of c.args.directory.now) _ _ _ c.any.ensures.ran (YieldsList-from_slice c.args.rows.now cc) (λ x b q k. search (rules, tests))
