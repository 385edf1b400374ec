use Rattle.std.proofs.Common.{arith, length, ◌/◌}
use Rattle.gl_talk.proofs.Turns.{old_edge_put}
use Rattle.gl_talk.proofs.old.put_edges.Goals as goal

pub loop-i-preserved : goal.loop-i-preserved
loop-i-preserved c =
    (c.loop-i.invariant.0, old_edge_put c.args.bytes.now c.loop-i.text.items _ _ c.loop-i.i (length c.args.bytes.now / 48) (omega (arith, c.loop-i-test.true, c.loop-i.invariant.0)) c.in_ok-put_edge_at.ensures.ok c.loop-i.invariant.1)
