use Rattle.gl_aggregator.proofs.Gathered.{get_gives_bits}
use Rattle.gl_aggregator.proofs.laws.get_gives_bits.Goals as goal

pub returns : goal.returns
returns c = get_gives_bits
