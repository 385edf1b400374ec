use Rattle.gl_session.proofs.Threads.{on_ok, split_fresh}
use Rattle.gl_session.proofs.fork.split_one.Goals as goal

pub returns-clause-more : goal.returns-clause-more
returns-clause-more g c = on_ok c.put.result _ _
    (λ e. (
      c.split-actor.result,
      e,
      split_fresh g.D.Port.Port.told c.args.device.now c.args.first.now.pass.view c.split-actor.result c.args.port c.split-actor.ensures.other c.split-actor.ensures.new c.split-actor.ensures.port c.split-actor.ensures.own.1,
      c.split-actor.ensures.port,
    ))
    c.put.ensures.put
