-- the lines are there still, and what is left to configure makes the whole
use Rattle.std.proofs.Common.{◌≡◌, drop}
use Rattle.gl_base.specs.Lines.{offsets_of}
use Rattle.gl_model.specs.Configuring.{reconfigure_from}
use Rattle.gl_model.specs.World.{World}
use Rattle.gl_core.specs.Kept.{StandsFor}
use Rattle.gl_core.specs.Shape.{KeepsLines}
use Rattle.gl_core.proofs.state.State.reconfigure_each.Given as goal

abbrev pub invariant-loop-i : goal.invariant-loop-i
invariant-loop-i l =
    KeepsLines l.initial.self.places l.self.places
    × ((w : World) → StandsFor l.initial.self w
    → (v : World) × StandsFor l.self v × (reconfigure_from l.place l.settings l.bits l.i (drop l.i (offsets_of l.lines)) v ≡ reconfigure_from l.place l.settings l.bits 0 (offsets_of l.lines) w))
