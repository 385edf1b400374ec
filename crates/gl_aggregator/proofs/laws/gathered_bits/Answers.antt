use Rattle.gl_aggregator.proofs.Gathered.{gathered_bits}
use Rattle.gl_aggregator.proofs.laws.gathered_bits.Goals as goal

pub returns : goal.returns
returns c = gathered_bits
