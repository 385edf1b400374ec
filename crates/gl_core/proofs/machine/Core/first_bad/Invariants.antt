-- the entries so far are legal, and the core stands for the world after them
use Rattle.std.proofs.Common.{take}
use Rattle.gl_model.specs.Machine.{IsLegal, world_of}
use Rattle.gl_core.specs.Kept.{StandsFor}
use Rattle.gl_core.proofs.machine.Core.first_bad.Given as goal

abbrev pub invariant-loop-i : goal.invariant-loop-i
invariant-loop-i l = IsLegal StandsFor (take l.i l.history) × StandsFor l.self (world_of StandsFor (take l.i l.history))
