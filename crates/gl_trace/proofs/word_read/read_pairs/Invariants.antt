use Rattle.std.proofs.Common.{◌≡◌, ◌≤◌, length, take}
use Rattle.gl_trace.specs.WordRead.{pairs_of}
use Rattle.gl_trace.proofs.Pairs.{prefixed}
use Rattle.gl_trace.proofs.word_read.read_pairs.Given as goal

abbrev pub invariant-loop-rest : goal.invariant-loop-rest
invariant-loop-rest l = (l.count ≤ 127) × (length l.bytes ≡ 127) × (pairs_of l.digits ≡ prefixed (take l.count l.bytes) (pairs_of l.rest))

abbrev pub decreases-loop-rest : goal.decreases-loop-rest
decreases-loop-rest l = length l.rest
