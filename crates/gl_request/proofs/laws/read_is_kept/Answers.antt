use Rattle.gl_request.proofs.Numbers.{read_kept}
use Rattle.gl_request.proofs.laws.read_is_kept.Goals as goal

pub returns : goal.returns
returns c = read_kept
