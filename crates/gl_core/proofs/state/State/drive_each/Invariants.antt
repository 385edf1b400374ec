-- the lines are there still, and what is left to drive makes the whole
use Rattle.std.proofs.Common.{◌≡◌, drop}
use Rattle.gl_base.specs.Lines.{offsets_of}
use Rattle.gl_model.specs.Values.{drive_from}
use Rattle.gl_model.specs.World.{World}
use Rattle.gl_core.specs.Kept.{StandsFor}
use Rattle.gl_core.specs.Shape.{HasEachLine}
use Rattle.gl_core.proofs.state.State.drive_each.Given as goal

abbrev pub invariant-loop-i : goal.invariant-loop-i
invariant-loop-i l =
    HasEachLine l.self.places l.place l.lines
    × ((w : World) → StandsFor l.initial.self w
    → (v : World) × StandsFor l.self v × (drive_from l.place l.mask l.bits l.i (drop l.i (offsets_of l.lines)) v ≡ drive_from l.place l.mask l.bits 0 (offsets_of l.lines) w))
