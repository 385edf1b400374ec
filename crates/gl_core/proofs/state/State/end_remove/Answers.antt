use Rattle.std.proofs.Common.{List, sym, subst}
use Rattle.gl_simtree.specs.Rows.{with_state}
use Rattle.gl_simtree.specs.declared.row.State.TheVariants.{Off}
use Rattle.gl_simtree.specs.declared.row.TreeRow.{TreeRow}
use Rattle.gl_core.specs.Kept.{StandsFor}
use Rattle.gl_core.specs.View.{view_of}
use Rattle.gl_core.proofs.Removing.{remove_ends, remove_refused, tree_changed}
use Rattle.gl_core.proofs.state.State.end_remove.Goals as goal

pub returns-then-count-eq0 : goal.returns-then-count-eq0
returns-then-count-eq0 c = λ w s.
    remove_refused w c.args.self.now c.args.actor c.args.device.now c.removal_places-places.result c.summary-first.result.1 c.used.result
    (c.removal_places-places.ensures w s) (c.used.ensures.used w s) c.summary-first.ensures.count c.if-count-eq0.true s

pub returns : goal.returns
returns c w s =
    let device = c.args.device.now in
    let before : StandsFor (view_of c.self.inside) w = subst (λ k. StandsFor k w) (sym c.self.view_is) s in
    let off = tree_changed (view_of c.self.inside) w (λ (t : List TreeRow). with_state device Off t) c.set_off.new.self before c.set_off.ensures in
    remove_ends w c.end_at.new.self c.args.actor device c.removal_places-places.result c.summary-first.result.1 c.used.result
    (c.removal_places-places.ensures w s) (c.used.ensures.used w s) c.summary-first.ensures.count c.if-count-eq0.false (c.end_at.ensures _ off)
