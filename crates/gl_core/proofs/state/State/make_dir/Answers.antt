use Rattle.std.proofs.Common.{sym, subst}
use Rattle.gl_simtree.specs.Calls.{made, mkdir_refusal}
use Rattle.gl_simtree.specs.Nodes.{node_at}
use Rattle.gl_core.specs.Kept.{StandsFor}
use Rattle.gl_core.specs.View.{view_of}
use Rattle.gl_core.proofs.Standing.{tree_done}
use Rattle.gl_core.proofs.state.State.make_dir.Goals as goal

pub returns : goal.returns
returns c w s =
    tree_done (view_of c.self.inside) w (mkdir_refusal (node_at c.args.path.now)) (made (node_at c.args.path.now)) c.mkdir.new.self c.mkdir.result c.reply_of.result (subst (λ k. StandsFor k w) (sym c.self.view_is) s)
    c.mkdir.ensures.answer c.mkdir.ensures.tree c.reply_of.ensures
