use Rattle.std.proofs.Common.{◌≡◌, sym, ◌∙◌, rules, tests}
use Rattle.std.proofs.lemmas.Iterator.{YieldsList-from_slice}
use Rattle.std.proofs.lemmas.Iterator.Search.{all_from_yields_List}
use Rattle.std.specs.List.{list_all}
use Rattle.gl_base.specs.Label.{is_label_byte}
use Rattle.gl_base.proofs.Labels.{label_bytes_are_nonzero}
use Rattle.gl_base.proofs.label.are_label_bytes.Goals as goal

pub returns-clause-nonzero : goal.returns-clause-nonzero
returns-clause-nonzero c =
    let labels : c.all.result ≡ list_all is_label_byte c.args.bytes.now = all_from_yields_List is_label_byte _ _ _ c.all.ensures.ran (YieldsList-from_slice c.args.bytes.now cc) (λ x b q k. search (rules, tests)) in
    λ yes. label_bytes_are_nonzero c.args.bytes.now (sym labels ∙ yes)
