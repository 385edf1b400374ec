use Rattle.std.proofs.Common.{◌<◌, ◌≤◌, ℕ, List, length, sym, ap, subst, ◌∙◌, arith}
use Rattle.gl_base.specs.Words.{Span}
use Rattle.gl_script.specs.Columns.{columns}
use Rattle.gl_script.specs.declared.limits.TheConstants.{JOINED_MAX}
use Rattle.gl_talk.specs.Words.{behind_two}
use Rattle.gl_talk.proofs.FewNames.{few_joined, joined_formed}
use Rattle.gl_talk.proofs.joining.aggregates.Goals as goal

pub behind_two-names-requires : goal.behind_two-names-requires
behind_two-names-requires c =
    let formed = joined_formed c.args.line.now c.args.label.now c.requires in
    subst (λ (line : List ℕ). 1 < length (columns line)) (sym c.deref.ensures.value) (omega (arith, formed.0))

pub all_named-named-requires-clause-few : goal.all_named-named-requires-clause-few
all_named-named-requires-clause-few c =
    subst (λ (names : List Span). length names ≤ JOINED_MAX) (sym (c.behind_two-names.ensures.words ∙ ap (λ (line : List ℕ). behind_two (columns line)) c.deref.ensures.value))
    (few_joined c.args.line.now c.args.label.now c.requires)
