use Rattle.std.proofs.Common.{List, sym, subst}
use Rattle.gl_simtree.specs.Calls.{leaving_state}
use Rattle.gl_simtree.specs.Rows.{state_of, with_state}
use Rattle.gl_simtree.specs.declared.row.TreeRow.{TreeRow}
use Rattle.gl_core.specs.Kept.{StandsFor}
use Rattle.gl_core.specs.View.{view_of}
use Rattle.gl_core.proofs.Removing.{remove_begins, tree_changed}
use Rattle.gl_core.proofs.state.State.begin_remove.Goals as goal

pub returns-in-None : goal.returns-in-None
returns-in-None c w s =
    let device = c.args.device.now in
    let before : StandsFor (view_of c.self.inside) w = subst (λ k. StandsFor k w) (sym c.self.view_is) s in
    let leaving = tree_changed (view_of c.self.inside) w (λ (t : List TreeRow). with_state device (leaving_state (state_of device t)) t) c.set_leaving.new.self before c.set_leaving.ensures in
    remove_begins w c.leave_at.new.self c.args.actor device c.removal_places-places.result c.summary-first.result.0 c.summary-first.result.1 c.used.result c.args.out.now c.requires
    (c.removal_places-places.ensures w s) (c.used.ensures.used w s) c.summary-first.ensures.first c.summary-first.ensures.count (sym (c.in-None.ensures w s)) (c.leave_at.ensures _ leaving)
