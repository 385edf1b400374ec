use Rattle.gl_trace.proofs.HistoryHeads.{SoFar}
use Rattle.gl_trace.proofs.history.last_head.Given as goal

abbrev pub invariant-loop-at : goal.invariant-loop-at
invariant-loop-at l = SoFar l.output l.at l.starts l.found
