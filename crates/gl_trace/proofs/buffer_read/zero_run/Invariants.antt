use Rattle.std.proofs.Common.{◌≡◌, ◌+◌, drop}
use Rattle.gl_base.specs.BytesText.{zero_run}
use Rattle.gl_trace.proofs.buffer_read.zero_run.Given as goal

abbrev pub invariant-loop-i : goal.invariant-loop-i
invariant-loop-i l = l.i + zero_run (drop l.i l.bytes) ≡ zero_run l.bytes
