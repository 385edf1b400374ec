-- the lines so far have no fault
use Rattle.std.proofs.Common.{◌≡◌, ◌-◌}
use Rattle.gl_base.specs.Positions.{first_fault}
use Rattle.gl_model.specs.Configuring.{directed_fault}
use Rattle.gl_model.specs.Places.{place_at}
use Rattle.gl_model.specs.World.{World}
use Rattle.gl_core.specs.Kept.{StandsFor}
use Rattle.gl_core.proofs.state.State.first_directed_fault.Given as goal

abbrev pub invariant-loop-i : goal.invariant-loop-i
invariant-loop-i l = (w : World) → StandsFor l.self w
    → first_fault (directed_fault (place_at w l.place) l.lines l.settings) l.i (l.lines.count - l.i) ≡ first_fault (directed_fault (place_at w l.place) l.lines l.settings) 0 l.lines.count
