use Rattle.std.proofs.Common.{◌<◌, ◌≤◌, true, length, refl, arith}
use Rattle.gl_trace.proofs.HistoryHeads.{at_end, goes_on, within}
use Rattle.gl_trace.proofs.history.last_head.Goals as goal

pub loop-at-preserved : goal.loop-at-preserved
loop-at-preserved c =
    let there : c.loop-at.at < length c.args.output.now = omega arith in
    goes_on c.args.output.now c.loop-at.at c.loop-at.starts c.loop-at.found c.split_at.result.1.now c.is_head.result _ c.later-found.result c.loop-at.invariant there c.split_at.ensures.back c.is_head.ensures c.later-found.ensures refl

pub returns-clause-within : goal.returns-clause-within
returns-clause-within c =
    let past : length c.args.output.now ≤ c.loop-at.at = omega arith in
    rw (at_end c.args.output.now c.loop-at.at c.loop-at.starts c.loop-at.found c.loop-at.invariant past) (within true c.args.output.now)
