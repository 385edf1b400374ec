use Rattle.std.proofs.Common.{◌≡◌, inl, rules}
use Rattle.std.specs.Io.KnownBytes.{Appends}
use Rattle.gl_base.specs.Count.{Rises}
use Rattle.gl_session.specs.Streams.{AppendsFront}
use Rattle.gl_session.specs.Verdict.{verdict_line, verdict_status}
use Rattle.gl_session.proofs.Causes.{as_lent}
use Rattle.gl_session.proofs.Judgments.{if_front, if_judged, if_lawful, if_yes, judged_or_none}
use Rattle.gl_session.proofs.check.run_check.Goals as goal

pub returns-in-Ok-clause-judged : goal.returns-in-Ok-clause-judged
returns-in-Ok-clause-judged g c = λ j.
    if_judged _ _ _ (λ verdict. c.answer.result ≡ verdict_status verdict) (λ verdict. Appends (g.K.Sink.held c.args.sink.now) (g.K.Sink.held c.answer.new.sink) (verdict_line verdict))
    (as_lent _ _ _ _ c.deref.result.now c.in-Ok.ensures.ok (search rules)) (c.answer.ensures.judged j)

pub returns-in-Ok-clause-front : goal.returns-in-Ok-clause-front
returns-in-Ok-clause-front g c = λ e.
    if_front _ _ _ (λ verdict. AppendsFront (g.K.Sink.held c.args.sink.now) (g.K.Sink.held c.answer.new.sink) (verdict_line verdict)) (as_lent _ _ _ _ c.deref.result.now c.in-Ok.ensures.ok (search rules)) (c.answer.ensures.front e)

pub returns-in-Ok-clause-complete : goal.returns-in-Ok-clause-complete
returns-in-Ok-clause-complete g c = λ r w. judged_or_none c.answer.result c.answer.ensures.ends c.answer.ensures.write_fault w

pub returns-in-Ok-clause-yes : goal.returns-in-Ok-clause-yes
returns-in-Ok-clause-yes g c = λ ran.
    if_yes c.lawful_runs_are_judged_so.ensures.yes _ c.answer.result (λ line. Appends (g.K.Sink.held c.args.sink.now) (g.K.Sink.held c.answer.new.sink) line) ran
    (if_judged _ _ _ (λ verdict. c.answer.result ≡ verdict_status verdict) (λ verdict. Appends (g.K.Sink.held c.args.sink.now) (g.K.Sink.held c.answer.new.sink) (verdict_line verdict))
    (as_lent _ _ _ _ c.deref.result.now c.in-Ok.ensures.ok (search rules)) (c.answer.ensures.judged (inl ran)))

pub returns-in-Ok-clause-yes_complete : goal.returns-in-Ok-clause-yes_complete
returns-in-Ok-clause-yes_complete g c =
    if_lawful c.lawful_runs_are_judged_so.ensures.lawful _ c.answer.result (Rises (g.S.Source.fault_count c.args.source.now) (g.S.Source.fault_count c.read_through.new.source))
    (Rises (g.K.Sink.fault_count c.args.sink.now) (g.K.Sink.fault_count c.answer.new.sink)) (λ verdict. Appends (g.K.Sink.held c.args.sink.now) (g.K.Sink.held c.answer.new.sink) (verdict_line verdict))
    (λ r w. judged_or_none c.answer.result c.answer.ensures.ends c.answer.ensures.write_fault w)
    (λ j. if_judged _ _ _ (λ verdict. c.answer.result ≡ verdict_status verdict) (λ verdict. Appends (g.K.Sink.held c.args.sink.now) (g.K.Sink.held c.answer.new.sink) (verdict_line verdict))
    (as_lent _ _ _ _ c.deref.result.now c.in-Ok.ensures.ok (search rules)) (c.answer.ensures.judged j))
