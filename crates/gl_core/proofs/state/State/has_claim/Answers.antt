use Rattle.std.proofs.Common.{◌∙◌, ap, sym, subst}
use Rattle.std.specs.Prelude.{is_some}
use Rattle.gl_core.specs.Kept.{StandsFor}
use Rattle.gl_core.specs.View.{view_of}
use Rattle.gl_core.proofs.Claims.{claim_kept}
use Rattle.gl_core.proofs.state.State.has_claim.Goals as goal

pub returns : goal.returns
returns c w s =
    c.is_some.ensures ∙ ap is_some (c.pending.ensures ∙ claim_kept (view_of c.self.inside) w c.args.actor (subst (λ k. StandsFor k w) (sym c.self.view_is) s))
