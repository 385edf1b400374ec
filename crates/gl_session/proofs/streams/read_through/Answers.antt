use Rattle.std.proofs.Common.{refl}
use Rattle.gl_session.proofs.Known.{consumes_more, full_is_no_fault}
use Rattle.gl_session.proofs.streams.read_through.Goals as goal

pub returns-then-is_err-clause-front : goal.returns-then-is_err-clause-front
returns-then-is_err-clause-front g c = (_, consumes_more _ _ _ _ _ c.loop-chunk.invariant.0 c.in-Ok.ensures.taken)

pub returns-in-Ok-eq0-clause-front : goal.returns-in-Ok-eq0-clause-front
returns-in-Ok-eq0-clause-front g c = (_, consumes_more _ _ _ _ _ c.loop-chunk.invariant.0 c.in-Ok-eq0.ensures.taken)

pub returns-then-is_err-clause-fault : goal.returns-then-is_err-clause-fault
returns-then-is_err-clause-fault g c = λ fault. absurd (full_is_no_fault refl fault)
