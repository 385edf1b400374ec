use Rattle.gl_check.proofs.ThroughPort.{one_through_port}
use Rattle.gl_check.proofs.laws.one_is_through_port.Goals as goal

pub returns : goal.returns
returns c = one_through_port
