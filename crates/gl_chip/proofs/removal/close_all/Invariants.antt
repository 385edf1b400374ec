-- the places so far are drained, and else the pass is as it was
use Rattle.std.proofs.Common.{◌+◌}
use Rattle.gl_gate.specs.Values.{IsPassOf}
use Rattle.gl_chip.specs.Removals.{HasDrained}
use Rattle.gl_chip.proofs.removal.close_all.Given as goal

abbrev pub invariant-loop-step : goal.invariant-loop-step
invariant-loop-step g l = IsPassOf l.gate l.pass × HasDrained g.M.Machine l.from (l.from + l.step) l.initial.pass.view l.pass.view
