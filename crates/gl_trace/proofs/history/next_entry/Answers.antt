use Rattle.std.proofs.Common.{refl}
use Rattle.gl_trace.proofs.HistoryLines.{next_there}
use Rattle.gl_trace.proofs.history.next_entry.Goals as goal

pub returns-in-Some-entry_at-clause-entry : goal.returns-in-Some-entry_at-clause-entry
returns-in-Some-entry_at-clause-entry c =
    next_there c.args.text.now c.split_first.result.0.now c.in-Some.rest.now _ c.args.index c.in-Some-entry_at.entry (rw c.in-Some.is at c.split_first.ensures.pieces) refl c.in-Some-entry_at.ensures.entry
