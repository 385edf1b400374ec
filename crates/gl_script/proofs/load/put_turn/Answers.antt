use Rattle.gl_script.proofs.Loads.{turn_put}
use Rattle.gl_script.proofs.load.put_turn.Goals as goal

pub returns-clause-ok : goal.returns-clause-ok
returns-clause-ok c =
    turn_put c.args.out.now.items c.put_line.new.out.items c.put_line-2.new.out.items c.put_line-3.new.out.items c.put_events.new.out.items
    c.args.k c.args.x c.pull_end.result.now c.pull_end.ensures c.in_ok-put_line.ensures.ok c.in_ok-put_line-2.ensures.ok c.in_ok-put_line-3.ensures.ok
    c.in_ok-put_events.ensures.ok
