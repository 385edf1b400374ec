use Rattle.std.proofs.Common.{◌≡◌, ℕ, true, false, List, None, map, sym, ap, subst, ◌∙◌}
use Rattle.std.specs.Prelude.{is_some}
use Rattle.gl_base.specs.Words.{Span, text_at}
use Rattle.gl_base.specs.declared.errno.Errno.TheVariants.{BadF, Inval}
use Rattle.gl_client.specs.Program.{Goes}
use Rattle.gl_talk.specs.Doing.{refused}
use Rattle.gl_talk.specs.Open.{MonitorTool, held_of_name, monitor_in, set_in, watched_of_name}
use Rattle.gl_talk.specs.Talk.{Does, left, names_in, words_in}
use Rattle.gl_talk.specs.declared.held.SetRow.{SetRow}
use Rattle.gl_talk.proofs.Watching.{no_step, no_tool}
use Rattle.gl_talk.proofs.talk.Talk.step_held.Goals as goal

pub returns-then-has_set-clause-goes : goal.returns-then-has_set-clause-goes
returns-then-has_set-clause-goes c =
    let t = c.args.self.now in
    let named : c.tool_name-name.result ≡ text_at 1 (words_in t) = c.tool_name-name.ensures ∙ ap (λ (words : List Span). text_at 1 words) (sym c.under_way.ensures.words) in
    let watched : watched_of_name (text_at 1 (words_in t)) (names_in t).monitors ≡ None
    = ap (λ (n : List ℕ). watched_of_name n (names_in t).monitors) (sym (c.as_bytes.ensures.bytes ∙ named)) ∙ c.in-None.ensures.watched in
    let held : is_some (held_of_name (text_at 1 (words_in t)) (names_in t).sets) ≡ true
    = ap (λ (x : List ℕ × List SetRow). is_some (held_of_name x.0 (map set_in x.1))) (λ i. (sym (c.as_bytes-in-None.ensures.bytes ∙ named) i, sym c.deref.ensures.value i)) ∙ sym c.has_set.ensures ∙ c.if-has_set.true in
    subst (λ (p : Does). Goes p c.refuse.new.step (left c.refuse.new.self))
    (ap (λ (monitors : List MonitorTool). refused Inval (record (names_in t) { monitors = monitors })) (ap (map monitor_in) c.in-None.ensures.left) ∙ sym (no_step _ _ (names_in t) (words_in t) watched held))
    c.in_ok-refuse-in-None.ensures.goes

pub returns-in_ok-refuse-in-None-2-clause-goes : goal.returns-in_ok-refuse-in-None-2-clause-goes
returns-in_ok-refuse-in-None-2-clause-goes c =
    let t = c.args.self.now in
    let named : c.tool_name-name.result ≡ text_at 1 (words_in t) = c.tool_name-name.ensures ∙ ap (λ (words : List Span). text_at 1 words) (sym c.under_way.ensures.words) in
    let watched : watched_of_name (text_at 1 (words_in t)) (names_in t).monitors ≡ None
    = ap (λ (n : List ℕ). watched_of_name n (names_in t).monitors) (sym (c.as_bytes.ensures.bytes ∙ named)) ∙ c.in-None.ensures.watched in
    let held : is_some (held_of_name (text_at 1 (words_in t)) (names_in t).sets) ≡ false
    = ap (λ (x : List ℕ × List SetRow). is_some (held_of_name x.0 (map set_in x.1))) (λ i. (sym (c.as_bytes-in-None.ensures.bytes ∙ named) i, sym c.deref.ensures.value i)) ∙ sym c.has_set.ensures ∙ c.if-has_set.false in
    subst (λ (p : Does). Goes p c.refuse-in-None.new.step (left c.refuse-in-None.new.self))
    (ap (λ (monitors : List MonitorTool). refused BadF (record (names_in t) { monitors = monitors })) (ap (map monitor_in) c.in-None.ensures.left) ∙ sym (no_tool _ _ (names_in t) (words_in t) watched held))
    c.in_ok-refuse-in-None-2.ensures.goes
