use Rattle.std.proofs.Common.{sym, subst}
use Rattle.gl_core.specs.Kept.{StandsFor}
use Rattle.gl_core.specs.View.{view_of}
use Rattle.gl_core.proofs.Settings.{settings_stand}
use Rattle.gl_core.proofs.state.State.keep_settings.Goals as goal

pub returns-clause-follows : goal.returns-clause-follows
returns-clause-follows c w s =
    rw c.configure_at.ensures (settings_stand (view_of c.self.inside) w c.args.found.fd c.args.settings.now (subst (λ k. StandsFor k w) (sym c.self.view_is) s))
