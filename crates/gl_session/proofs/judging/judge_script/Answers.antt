use Rattle.std.proofs.Common.{arith, sym, ◌∙◌}
use Rattle.std.proofs.lemmas.Result.{IfOk-weaker}
use Rattle.gl_script.specs.Script.{sections_of}
use Rattle.gl_session.proofs.Judgments.{aggregating_session, lone_session, output_verdict}
use Rattle.gl_session.proofs.judging.judge_script.Goals as goal

pub returns-then-count_actors-lt2-clause-verdict : goal.returns-then-count_actors-lt2-clause-verdict
returns-then-count_actors-lt2-clause-verdict c =
    lone_session (record { session = c.args.session.now; output = c.args.output.now }) (sections_of c.args.script.now) c.requires (omega (arith, c.count_actors.ensures))

pub returns-then-has_aggregate-clause-verdict : goal.returns-then-has_aggregate-clause-verdict
returns-then-has_aggregate-clause-verdict c =
    aggregating_session (record { session = c.args.session.now; output = c.args.output.now }) (sections_of c.args.script.now) c.requires (sym c.has_aggregate.ensures ∙ c.if-has_aggregate.true)

pub returns-clause-verdict : goal.returns-clause-verdict
returns-clause-verdict c =
    IfOk-weaker c.judge_output.result _ _
    (λ verdict h. output_verdict (record { session = c.args.session.now; output = c.args.output.now }) (sections_of c.args.script.now) verdict c.requires (omega (arith, c.count_actors.ensures)) (sym c.has_aggregate.ensures ∙ c.if-has_aggregate.false) h)
    c.judge_output.ensures.verdict
