use Rattle.gl_aggregator.proofs.Joined.{lines_are_in_one_target}
use Rattle.gl_aggregator.proofs.laws.lines_are_in_one_target.Goals as goal

pub returns : goal.returns
returns c = lines_are_in_one_target
