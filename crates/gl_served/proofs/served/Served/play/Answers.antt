use Rattle.std.proofs.Common.{refl}
use Rattle.gl_served.proofs.Running.{same_line, same_session}
use Rattle.gl_served.proofs.served.Served.play.Goals as goal

pub loop-init : goal.loop-init
loop-init c = (record { count = refl; stage = refl; under_way = refl }, record { line = refl; reads = refl }, λ p s going. going)

pub loop-preserved : goal.loop-preserved
loop-preserved c = (
  same_session _ _ _ c.loop.invariant.0 c.turn.ensures.session,
  same_line _ _ _ c.loop.invariant.1 c.turn.ensures.line,
  λ p s going. c.turn.ensures.gone p s (c.loop.invariant.2 p s going),
)

pub returns-in-Ok-false-clause-session : goal.returns-in-Ok-false-clause-session
returns-in-Ok-false-clause-session c = same_session _ _ _ c.loop.invariant.0 c.turn.ensures.session

pub returns-in-Ok-false-clause-line : goal.returns-in-Ok-false-clause-line
returns-in-Ok-false-clause-line c = same_line _ _ _ c.loop.invariant.1 c.turn.ensures.line

pub returns-in-Ok-false-clause-gone : goal.returns-in-Ok-false-clause-gone
returns-in-Ok-false-clause-gone c = λ p s going. c.turn.ensures.gone p s (c.loop.invariant.2 p s going)

pub returns-in-Err-clause-session : goal.returns-in-Err-clause-session
returns-in-Err-clause-session c = same_session _ _ _ c.loop.invariant.0 c.turn.ensures.session

pub returns-in-Err-clause-line : goal.returns-in-Err-clause-line
returns-in-Err-clause-line c = same_line _ _ _ c.loop.invariant.1 c.turn.ensures.line

pub returns-in-Err-clause-gone : goal.returns-in-Err-clause-gone
returns-in-Err-clause-gone c = λ p s going. c.turn.ensures.gone p s (c.loop.invariant.2 p s going)
