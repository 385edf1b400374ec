use Rattle.std.proofs.Common.{ap, ◌∙◌}
use Rattle.gl_driver.specs.Told.{with_plan}
use Rattle.gl_session.specs.Player.{Playing}
use Rattle.gl_session.proofs.player.Player.plan.Goals as goal

pub returns-clause-told : goal.returns-clause-told
returns-clause-told g c = c.plan.ensures.port ∙ ap (λ (p : Playing). with_plan c.args.nth p.carried.told) c.self.view_is
