use Rattle.gl_base.specs.Words.{pieces}
use Rattle.gl_trace.proofs.HistoryLines.{one_more_line}
use Rattle.gl_trace.proofs.TextPieces.{has_first}
use Rattle.gl_trace.proofs.history.one_line.Goals as goal

pub returns-in-Some-clause-one : goal.returns-in-Some-clause-one
returns-in-Some-clause-one c =
    let rest = c.in-Some.field-0.now in
    rw c.in-Some.is (one_more_line c.args.line.now (pieces 10 rest) (has_first 10 rest))
