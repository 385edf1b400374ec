use Rattle.std.proofs.Common.{◌≡◌, ℕ, List, Option, subst, rules}
use Rattle.std.proofs.lemmas.Result.{IfOk-weaker}
use Rattle.gl_script.specs.Script.{sections_of}
use Rattle.gl_trace.specs.HistoryRead.{history_in}
use Rattle.gl_core.specs.Device.{OneEntry}
use Rattle.gl_check.specs.Misfit.{IsMisfit}
use Rattle.gl_session.specs.Verdict.{entries_verdict}
use Rattle.gl_session.proofs.Judgments.{faulty_output, with_history}
use Rattle.gl_session.proofs.judging.judge_output.Goals as goal

pub returns-in-Ok-clause-verdict : goal.returns-in-Ok-clause-verdict
returns-in-Ok-clause-verdict c =
    let same : c.deref.result.now ≡ c.in-Ok.printed.entries.items = search rules in
    let sections = sections_of c.args.script.now in
    let front = c.in-Ok.printed.front.now in
    IfOk-weaker c.judge_entries.result _ _
    (λ verdict h. with_history sections (history_in c.args.output.now) front c.in-Ok.printed.entries.items verdict c.in-Ok.ensures.ok c.in-Ok.ensures.told
    (subst (λ (l : List OneEntry). (misfit : Option ℕ) × IsMisfit sections l misfit × (verdict ≡ entries_verdict misfit sections front l)) same h))
    c.judge_entries.ensures.verdict

pub returns-in-Err-clause-verdict : goal.returns-in-Err-clause-verdict
returns-in-Err-clause-verdict c =
    IfOk-weaker c.without_history.result _ _ (λ verdict h. faulty_output (sections_of c.args.script.now) (history_in c.args.output.now) c.in-Err.why verdict c.in-Err.ensures.fault h) c.without_history.ensures.verdict
