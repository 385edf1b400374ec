use Rattle.std.proofs.Common.{List, sym, ap, subst, ◌≡◌, ◌∙◌, Some, None}
use Rattle.gl_args.specs.Options.{tool_in}
use Rattle.gl_base.specs.Words.{Span}
use Rattle.gl_client.specs.Program.{Goes, done, given, then_left}
use Rattle.gl_args.specs.Tools.{tool_said}
use Rattle.gl_talk.specs.Talk.{names_in, left, runs, slot_in, words_in}
use Rattle.gl_talk.specs.ToolWords.{word_texts}
use Rattle.gl_talk.proofs.Continuing.{on_ok}
use Rattle.gl_talk.proofs.talk.Talk.start_tool.Goals as goal

pub returns-in-Ok-clause-goes : goal.returns-in-Ok-clause-goes
returns-in-Ok-clause-goes c =
    let t = c.args.self.now in
    let said : tool_said (word_texts (words_in t)) ≡ Some (tool_in c.in-Ok.tool) = ap (λ (words : List Span). tool_said (word_texts words)) c.under_way.ensures.words ∙ c.in-Ok.ensures.ok in
    on_ok c.run.result _ _
    (λ g.
    subst (λ tool. Goes (runs tool (names_in t) (slot_in t) (words_in t)) c.run.new.step (left c.run.new.self)) (sym said)
    (subst (λ l. Goes (given (then_left l (λ _. done (names_in t))) None) c.run.new.step (left c.run.new.self)) c.new.ensures g))
    c.run.ensures.goes
