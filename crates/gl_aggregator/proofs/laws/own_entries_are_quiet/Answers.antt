use Rattle.gl_aggregator.proofs.Quiet.{own_entries_are_quiet}
use Rattle.gl_aggregator.proofs.laws.own_entries_are_quiet.Goals as goal

pub returns : goal.returns
returns c = own_entries_are_quiet
