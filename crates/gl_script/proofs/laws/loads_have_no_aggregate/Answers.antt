use Rattle.gl_script.proofs.Loads.{load_has_no_aggregate}
use Rattle.gl_script.proofs.laws.loads_have_no_aggregate.Goals as goal

pub returns : goal.returns
returns c = load_has_no_aggregate
