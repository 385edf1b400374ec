use Rattle.gl_lines.proofs.FindingPrints.{finds_lines}
use Rattle.gl_lines.proofs.laws.finding_prints_lines.Goals as goal

pub returns : goal.returns
returns c = finds_lines
