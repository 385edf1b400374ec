use Rattle.std.proofs.Common.{◌≡◌, ◌++◌, length}
use Rattle.gl_base.specs.BytesText.{pairs_bytes}
use Rattle.gl_base.proofs.bytes_text.put_pairs.Given as goal

abbrev pub invariant-loop-rest : goal.invariant-loop-rest
invariant-loop-rest l = l.out.items ++ pairs_bytes l.rest ≡ l.fn.out.items ++ pairs_bytes l.word

abbrev pub decreases-loop-rest : goal.decreases-loop-rest
decreases-loop-rest l = length l.rest
