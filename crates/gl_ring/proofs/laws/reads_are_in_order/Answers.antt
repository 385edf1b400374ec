use Rattle.circular_buffer.specs.Buffer.{buffer}
use Rattle.std.proofs.Common.{[]}
use Rattle.gl_ring.proofs.Order.{in_order}
use Rattle.gl_ring.proofs.laws.reads_are_in_order.Goals as goal

pub returns : goal.returns
returns c capacity turns = in_order (buffer [] capacity) turns
