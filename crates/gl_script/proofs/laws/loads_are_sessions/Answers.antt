use Rattle.gl_script.proofs.Loads.{load_is_session}
use Rattle.gl_script.proofs.laws.loads_are_sessions.Goals as goal

pub returns : goal.returns
returns c = load_is_session
