use Rattle.gl_core.proofs.HeldLines.{next_is_new}
use Rattle.gl_core.proofs.state.State.open_chip.Goals as goal

pub open_file-requires-clause-number : goal.open_file-requires-clause-number
open_file-requires-clause-number c = next_is_new c.args.self.now c.requires.reached
