use Rattle.std.proofs.Common.{◌∙◌}
use Rattle.gl_check.proofs.seat.Seat.settle.Goals as goal

pub returns-in-Ok-false-clause-seat : goal.returns-in-Ok-false-clause-seat
returns-in-Ok-false-clause-seat c = c.in-Ok-false.ensures.stands c.in-Ok-false.field-0-test ∙ c.loop.invariant.same

pub loop-preserved : goal.loop-preserved
loop-preserved c = record {
  going = c.in-Ok-true.ensures.going;
  same = c.in-Ok-true.ensures.more c.in-Ok-true.field-0-test ∙ c.loop.invariant.same;
}
