use Rattle.gl_trace.proofs.Spelling.{run_left, run_none}
use Rattle.gl_trace.proofs.buffer_read.behind_front.Goals as goal

pub returns-in-Some-clause-left : goal.returns-in-Some-clause-left
returns-in-Some-clause-left c =
    run_left c.args.bytes.now c.split_at.result.1.now c.args.text.now _ c.zero_run-count.result c.zero_run-count.ensures.count c.split_at.ensures.back c.if-count-ge8.true c.in-Some.ensures

pub returns-in-None-clause-left : goal.returns-in-None-clause-left
returns-in-None-clause-left c =
    run_none c.args.bytes.now c.split_at.result.1.now c.args.text.now c.zero_run-count.result c.zero_run-count.ensures.count c.split_at.ensures.back c.if-count-ge8.true c.in-None.ensures
