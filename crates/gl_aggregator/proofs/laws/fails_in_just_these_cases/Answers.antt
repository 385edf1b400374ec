use Rattle.std.proofs.Common.{None}
use Rattle.gl_aggregator.proofs.Planned.{each_target_is_told, fails_in_just_these_cases}
use Rattle.gl_aggregator.proofs.laws.fails_in_just_these_cases.Goals as goal

pub returns-clause-fails : goal.returns-clause-fails
returns-clause-fails g c = fails_in_just_these_cases (g.D.Driver.Follows None)

pub returns-clause-told : goal.returns-clause-told
returns-clause-told g c = each_target_is_told (g.D.Driver.Follows None)
