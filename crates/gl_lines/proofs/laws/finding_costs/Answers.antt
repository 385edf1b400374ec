use Rattle.gl_lines.proofs.FindingCosts.{finds_requesting, finds_alone}
use Rattle.gl_lines.proofs.laws.finding_costs.Goals as goal

pub returns-clause-requesting : goal.returns-clause-requesting
returns-clause-requesting c = finds_requesting

pub returns-clause-alone : goal.returns-clause-alone
returns-clause-alone c = finds_alone
