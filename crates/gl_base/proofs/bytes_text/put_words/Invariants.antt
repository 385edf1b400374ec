use Rattle.std.proofs.Common.{◌≡◌, ◌++◌, false, length}
use Rattle.gl_base.specs.BytesText.{byte_words}
use Rattle.gl_base.proofs.bytes_text.put_words.Given as goal

abbrev pub invariant-loop-rest : goal.invariant-loop-rest
invariant-loop-rest l = l.out.items ++ byte_words false l.rest ≡ l.fn.out.items ++ byte_words false l.bytes

abbrev pub decreases-loop-rest : goal.decreases-loop-rest
decreases-loop-rest l = length l.rest
