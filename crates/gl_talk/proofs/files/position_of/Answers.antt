use Rattle.std.proofs.Common.{rules, tests}
use Rattle.std.proofs.lemmas.Iterator.{YieldsList-from_slice}
use Rattle.std.proofs.lemmas.Iterator.Search.{position_from_yields_List}
use Rattle.gl_talk.specs.Open.{is_row}
use Rattle.gl_talk.proofs.files.position_of.Goals as goal

pub returns : goal.returns
returns c = position_from_yields_List (is_row c.args.name.now) _ _ _ c.position.ensures.ran (YieldsList-from_slice c.args.files.now cc) (λ x b q k. search (rules, tests))
