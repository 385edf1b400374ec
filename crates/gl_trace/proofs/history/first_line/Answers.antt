use Rattle.std.proofs.Common.{refl}
use Rattle.gl_trace.proofs.HistoryLines.{head_there}
use Rattle.gl_trace.proofs.history.first_line.Goals as goal

pub returns-in-Some-count_told-clause-count : goal.returns-in-Some-count_told-clause-count
returns-in-Some-count_told-clause-count c =
    head_there c.args.text.now c.split_first.result.0.now c.in-Some.rest.now _ c.in-Some-count_told.count (rw c.in-Some.is at c.split_first.ensures.pieces) refl c.in-Some-count_told.ensures.count
