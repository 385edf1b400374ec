use Rattle.std.proofs.Common.{length, ap, sym, subst, ◌∙◌}
use Rattle.gl_simtree.specs.Rows.{banks_of}
use Rattle.gl_simtree.specs.declared.row.State.TheVariants.{Live}
use Rattle.gl_model.specs.Tree.{gone_live}
use Rattle.gl_core.specs.Kept.{Kept, StandsFor}
use Rattle.gl_core.specs.View.{view_of}
use Rattle.gl_core.proofs.GoingLive.{banks_stay, live_stands}
use Rattle.gl_core.proofs.state.State.make_live.Goals as goal

pub make_banks-requires-clause-all : goal.make_banks-requires-clause-all
make_banks-requires-clause-all c =
    c.requires.all ∙ ap (λ (k : Kept). length (banks_of c.args.device.now k.tree)) (sym c.self.view_is)
    ∙ ap (λ rows. length rows) (sym (banks_stay c.args.device.now c.args.device.now (Live c.used-first.result) c.self.inside.tree))
    ∙ ap (λ rows. length (banks_of c.args.device.now rows)) (sym c.set_live.ensures)

pub returns : goal.returns
returns c w s =
    subst (λ (k : Kept). StandsFor k (gone_live c.args.device.now w).world) (sym c.make_banks.ensures)
    (live_stands (view_of c.self.inside) w c.args.device.now c.used-first.result c.set_live.new.self (subst (λ (k : Kept). StandsFor k w) (sym c.self.view_is) s) (c.used-first.ensures.used w s) c.set_live.ensures)
