use Rattle.gl_base.proofs.Runs.{run_put}
use Rattle.gl_base.proofs.bytes_text.put_front.Goals as goal

pub returns-then-count-ge8-clause-ok : goal.returns-then-count-ge8-clause-ok
returns-then-count-ge8-clause-ok c =
    run_put c.args.out.now.items c.put_run.new.out.items c.args.bytes.now c.split_at.result.1.now c.zero_run-count.result
    c.in_ok-put_run.ensures.ok c.split_at.ensures.back c.zero_run-count.ensures.count c.if-count-ge8.true
