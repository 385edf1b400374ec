use Rattle.gl_served.proofs.Running.{on_ok_always}
use Rattle.gl_served.proofs.served.Served.finish.Goals as goal

pub returns-in-Ok-clause-ended : goal.returns-in-Ok-clause-ended
returns-in-Ok-clause-ended c = on_ok_always c.give.result c.in-Ok.ensures.ended

pub returns-in-Ok-clause-told : goal.returns-in-Ok-clause-told
returns-in-Ok-clause-told c = on_ok_always c.give.result c.in-Ok.ensures.told
