use Rattle.std.proofs.Common.{◌+◌, ◌-◌, ◌∙◌, arith}
use Rattle.gl_script.proofs.Loads.{turn_done}
use Rattle.gl_script.proofs.load.put_turns.Goals as goal

pub loop-passed-preserved : goal.loop-passed-preserved
loop-passed-preserved c = (
  c.next_number-x.ensures.within,
  turn_done c.loop-passed.out.items c.put_turn.new.out.items (c.from.result + 1) (c.loop-passed.passed + 1) c.loop-passed.x c.next_number-x.result
      (c.args.n - c.loop-passed.passed) (c.args.n - (c.loop-passed.passed + 1)) (omega arith) c.next_number-x.ensures.number c.in_ok-put_turn.ensures.ok (omega arith)
      ∙ c.loop-passed.invariant.1,
)
