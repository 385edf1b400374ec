use Rattle.gl_simtree.proofs.Spelled as spelled
use Rattle.gl_simtree.proofs.laws.paths_are_spelled.Goals as goal

pub returns : goal.returns
returns c = spelled.paths_are_spelled
