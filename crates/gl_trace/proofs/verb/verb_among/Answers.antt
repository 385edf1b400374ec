use Rattle.std.proofs.Common.{rules, tests}
use Rattle.std.proofs.lemmas.Iterator.{YieldsList-from_slice}
use Rattle.std.proofs.lemmas.Iterator.Search.{find_from_yields_List}
use Rattle.gl_trace.specs.Verbs.{is_verb}
use Rattle.gl_trace.proofs.verb.verb_among.Goals as goal

pub returns : goal.returns
returns c = find_from_yields_List (is_verb c.args.word.now) _ _ _ c.find.ensures.ran (YieldsList-from_slice c.args.verbs.now cc) (λ x b q k. search (rules, tests))
