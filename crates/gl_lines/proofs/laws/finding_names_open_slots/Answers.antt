use Rattle.gl_lines.proofs.FindingSlots.{finding_names}
use Rattle.gl_lines.proofs.laws.finding_names_open_slots.Goals as goal

pub returns : goal.returns
returns c = finding_names
