use Rattle.std.proofs.Common.{◌≡◌, ℕ, List, inl, inr, sym, ◌∙◌, subst}
use Rattle.std.specs.Io.KnownBytes.{Appends}
use Rattle.gl_session.specs.Verdict.{verdict_status}
use Rattle.gl_session.proofs.Judgments.{ends_judged, no_fault_judged, refused_verdict}
use Rattle.gl_session.proofs.check.answer.Goals as goal

pub returns-in-Ok-clause-ends : goal.returns-in-Ok-clause-ends
returns-in-Ok-clause-ends g c = ends_judged c.say.result c.in-Ok.verdict c.say.ensures.ends

pub returns-in-Ok-clause-judged : goal.returns-in-Ok-clause-judged
returns-in-Ok-clause-judged g c = λ j.
    let is : c.say.result ≡ verdict_status c.in-Ok.verdict = no_fault_judged c.say.result j c.say.ensures.ends in
    (c.in-Ok.verdict, c.in-Ok.ensures.verdict, is, c.say.ensures.written is)

pub returns-in-Ok-clause-refused : goal.returns-in-Ok-clause-refused
returns-in-Ok-clause-refused g c = λ e.
    let is : c.say.result ≡ verdict_status c.in-Ok.verdict = no_fault_judged c.say.result (inr (inl e)) c.say.ensures.ends in
    let line = refused_verdict c.in-Ok.verdict (sym is ∙ e) in
    (line.0, subst (λ (l : List ℕ). Appends (g.K.Sink.held c.args.sink.now) (g.K.Sink.held c.say.new.sink) l) line.1 (c.say.ensures.written is))

pub returns-in-Ok-clause-front : goal.returns-in-Ok-clause-front
returns-in-Ok-clause-front g c = λ e. (c.in-Ok.verdict, c.in-Ok.ensures.verdict, c.say.ensures.front e)
