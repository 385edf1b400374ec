use Rattle.gl_chip.proofs.RemovalSteps.{has_drained_one}
use Rattle.gl_chip.proofs.removal.close_and_drain.Goals as goal

pub returns-clause-drained : goal.returns-clause-drained
returns-clause-drained g c = has_drained_one g.M.Machine c.args.place c.args.pass.now c.close_place.new.pass c.drain.new.pass c.close_place.ensures.pass c.close_place.ensures.knows c.close_place.ensures.closed c.drain.ensures.pass c.drain.ensures.knows c.drain.ensures.drained
