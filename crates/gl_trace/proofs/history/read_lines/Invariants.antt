use Rattle.std.proofs.Common.{◌≡◌, length}
use Rattle.gl_trace.specs.HistoryText.{AreTold}
use Rattle.gl_trace.proofs.HistoryLines.{SoFar}
use Rattle.gl_trace.proofs.history.read_lines.Given as goal

abbrev pub invariant-loop-index : goal.invariant-loop-index
invariant-loop-index l = record { so_far : SoFar l.line l.count l.text l.index l.entries.items l.rest; many : length l.entries.items ≡ l.index; told : AreTold 0 l.entries.items }
