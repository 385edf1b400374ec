-- the lines so far have no fault
use Rattle.std.proofs.Common.{◌≡◌, ◌-◌}
use Rattle.gl_base.specs.Positions.{first_fault}
use Rattle.gl_model.specs.Values.{output_fault}
use Rattle.gl_model.specs.World.{World}
use Rattle.gl_core.specs.Kept.{StandsFor}
use Rattle.gl_core.proofs.state.State.first_output_fault.Given as goal

abbrev pub invariant-loop-i : goal.invariant-loop-i
invariant-loop-i l = (w : World) → StandsFor l.self w
    → first_fault (output_fault l.place l.lines l.mask w) l.i (l.lines.count - l.i) ≡ first_fault (output_fault l.place l.lines l.mask w) 0 l.lines.count
