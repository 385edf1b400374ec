use Rattle.std.proofs.Common.{sym, subst}
use Rattle.gl_simtree.specs.Calls.{write_refusal, written}
use Rattle.gl_simtree.specs.Nodes.{node_at}
use Rattle.gl_core.specs.Kept.{StandsFor}
use Rattle.gl_core.specs.View.{view_of}
use Rattle.gl_core.proofs.Standing.{tree_done}
use Rattle.gl_core.proofs.state.State.write_file.Goals as goal

pub returns : goal.returns
returns c w s =
    tree_done (view_of c.self.inside) w (λ rows. write_refusal (node_at c.args.path.now) c.args.value.now rows) (λ rows. written (node_at c.args.path.now) c.args.value.now rows) c.write.new.self c.write.result c.reply_of.result (subst (λ k. StandsFor k w) (sym c.self.view_is) s)
    c.write.ensures.answer c.write.ensures.tree c.reply_of.ensures
