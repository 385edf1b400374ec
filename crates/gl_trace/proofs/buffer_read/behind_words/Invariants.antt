use Rattle.std.proofs.Common.{◌≡◌, false, length}
use Rattle.gl_base.specs.BytesText.{byte_words}
use Rattle.gl_trace.specs.WordRead.{stripped}
use Rattle.gl_trace.proofs.buffer_read.behind_words.Given as goal

abbrev pub invariant-loop-bytes_left : goal.invariant-loop-bytes_left
invariant-loop-bytes_left l = stripped (byte_words false l.bytes) l.text ≡ stripped (byte_words false l.bytes_left) l.text_left

abbrev pub decreases-loop-bytes_left : goal.decreases-loop-bytes_left
decreases-loop-bytes_left l = length l.bytes_left
