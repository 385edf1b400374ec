use Rattle.std.proofs.Common.{◌∙◌, arith}
use Rattle.gl_v1.specs.Back.{events_in}
use Rattle.gl_v1.proofs.EventSteps.{event_more}
use Rattle.gl_v1.proofs.receiving.events.Goals as goal

pub loop-i-preserved : goal.loop-i-preserved
loop-i-preserved c = (
  event_more c.loop-i.i (events_in c.args.got.now) c.args.got.now c.loop-i.out c.put_event.new.out (omega arith) c.put_event.ensures ∙ c.loop-i.invariant.0,
  c.put_event.auto.out ∙ c.loop-i.invariant.1,
)
