use Rattle.std.proofs.Common.{◌≡◌, ◌++◌, length}
use Rattle.gl_trace.specs.TextWord.{pairs_text}
use Rattle.gl_trace.proofs.words.put_pairs.Given as goal

abbrev pub invariant-loop-rest : goal.invariant-loop-rest
invariant-loop-rest l = l.out.items ++ pairs_text l.rest ≡ l.fn.out.items ++ pairs_text l.bytes

abbrev pub decreases-loop-rest : goal.decreases-loop-rest
decreases-loop-rest l = length l.rest
