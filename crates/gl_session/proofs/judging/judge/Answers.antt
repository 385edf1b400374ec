use Rattle.std.proofs.Common.{arith}
use Rattle.std.proofs.lemmas.Result.{IfOk-weaker}
use Rattle.gl_session.proofs.Judgments.{no_header, session_verdict}
use Rattle.gl_session.proofs.judging.judge.Goals as goal

pub returns-in-Some-clause-verdict : goal.returns-in-Some-clause-verdict
returns-in-Some-clause-verdict c =
    IfOk-weaker c.judge_session.result _ _ (λ verdict h. session_verdict c.args.input.now (record { session = c.in-Some.session.now; output = c.in-Some.output.now }) verdict (omega arith) c.in-Some.ensures h)
    c.judge_session.ensures.verdict

pub returns-in-None-clause-verdict : goal.returns-in-None-clause-verdict
returns-in-None-clause-verdict c = no_header c.args.input.now (omega arith) c.in-None.ensures
