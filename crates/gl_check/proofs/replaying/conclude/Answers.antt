use Rattle.std.proofs.Common.{List, ℕ, ◌++◌, map, ap, ◌∙◌}
use Rattle.gl_script.specs.Script.{sections_of}
use Rattle.gl_check.specs.Many.{Texts}
use Rattle.gl_check.specs.Misfit.{beginning, behind}
use Rattle.gl_check.specs.Seating.{text_in}
use Rattle.gl_check.specs.Texts.{texts_text}
use Rattle.gl_check.proofs.Replayed.{printed}
use Rattle.gl_check.proofs.replaying.conclude.Goals as goal

pub returns-clause-texts : goal.returns-clause-texts
returns-clause-texts c =
    let end = (c.is_at_end.ensures (sections_of c.args.script.now) (behind (sections_of c.args.script.now) (beginning (sections_of c.args.script.now)) c.args.history.now) c.requires.fit.1).0 c.if-not-is_at_end.false in
    c.in_ok-extend_from_slice.ensures.items
    ∙ ap (λ (l : List ℕ). c.args.out.now.items ++ l)
    (c.deref.ensures.value ∙ c.in_ok-put_texts.ensures.ok
    ∙ ap (λ (l : List ℕ). l ++ texts_text (sections_of c.args.script.now) (record { setup = c.args.judge.now.setup.items; actors = map text_in c.args.judge.now.others.items; last = c.args.judge.now.first.text.items })) c.new-texts.ensures.items
    ∙ ap (λ (t : Texts). texts_text (sections_of c.args.script.now) t) (printed (sections_of c.args.script.now) c.args.history.now c.args.judge.now c.requires.fit end))
