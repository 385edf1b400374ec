use Rattle.std.proofs.Common.{ap, ◌∙◌}
use Rattle.gl_driver.specs.Told.{with_bits}
use Rattle.gl_session.specs.Player.{Playing}
use Rattle.gl_session.proofs.player.Player.accept.Goals as goal

pub returns-clause-told : goal.returns-clause-told
returns-clause-told g c = c.accept.ensures.port ∙ ap (λ (p : Playing). with_bits c.args.bits p.carried.told) c.self.view_is
