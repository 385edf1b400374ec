use Rattle.std.proofs.Common.{sym, subst, ap, ◌∙◌}
use Rattle.gl_simtree.specs.Calls.{remove_refusal}
use Rattle.gl_core.specs.Kept.{Kept, StandsFor}
use Rattle.gl_core.specs.View.{view_of}
use Rattle.gl_core.proofs.Removing.{refusal_again}
use Rattle.gl_core.proofs.state.State.remove_refusal.Goals as goal

pub returns : goal.returns
returns c w s =
    let before : StandsFor (view_of c.self.inside) w = subst (λ k. StandsFor k w) (sym c.self.view_is) s in
    c.err.ensures.value ∙ refusal_again (remove_refusal c.args.device.now c.self.inside.tree) c.check_remove.result c.check_remove.ensures
    ∙ ap (λ (k : Kept). remove_refusal c.args.device.now k.tree) (sym before.kept_so)
