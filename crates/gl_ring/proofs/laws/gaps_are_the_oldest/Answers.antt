use Rattle.gl_ring.proofs.Gaps.{gaps}
use Rattle.gl_ring.proofs.laws.gaps_are_the_oldest.Goals as goal

pub returns : goal.returns
returns c capacity k turns some known = gaps capacity k turns some known
