use Rattle.std.proofs.Common.{◌++◌, List, ℕ, ap, ◌∙◌, append_assoc}
use Rattle.std.specs.Prelude.{codes}
use Rattle.gl_values.specs.InfoText.{microseconds_text}
use Rattle.gl_values.proofs.info_text.put_some_period.Goals as goal

pub returns-clause-ok : goal.returns-clause-ok
returns-clause-ok c =
    let end : List ℕ = microseconds_text c.args.period in
    c.in_ok-put_microseconds.ensures.ok ∙ ap (λ (text : List ℕ). text ++ end) c.in_ok-push_all.ensures.ok
    ∙ append_assoc c.args.text.now (codes " debounce-period=") end
