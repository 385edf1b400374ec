use Rattle.gl_model.proofs.Marks.{tells_mark_lines}
use Rattle.gl_model.proofs.laws.tells_mark_lines.Goals as goal

pub returns : goal.returns
returns c = tells_mark_lines
