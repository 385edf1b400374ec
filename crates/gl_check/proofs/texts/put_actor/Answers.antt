use Rattle.std.proofs.Common.{List, ℕ, ◌++◌, ap, ◌∙◌}
use Rattle.std.specs.Prelude.{codes}
use Rattle.std.proofs.lemmas.List.{append_assoc}
use Rattle.gl_base.specs.TextLines.{text_line}
use Rattle.gl_check.proofs.texts.put_actor.Goals as goal

pub returns-clause-ok : goal.returns-clause-ok
returns-clause-ok c =
    let out = c.args.out.now.items in let begins = codes "== actor " in let line = text_line c.args.name.now in
    c.in_ok-extend_from_slice-2.ensures.items
    ∙ ap (λ (l : List ℕ). l ++ c.args.text.now) (c.in_ok-put_line.ensures.ok ∙ ap (λ (l : List ℕ). l ++ line) c.in_ok-extend_from_slice.ensures.items ∙ append_assoc out begins line)
    ∙ append_assoc out (begins ++ line) c.args.text.now
