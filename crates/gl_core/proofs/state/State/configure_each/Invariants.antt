-- the requests stay, the lines are there still, and what is left to configure makes the whole
use Rattle.std.proofs.Common.{◌≡◌, Some, drop}
use Rattle.gl_base.specs.Lines.{offsets_of}
use Rattle.gl_request.specs.Request.{request_at as row_at}
use Rattle.gl_request.specs.declared.row.RequestRow.{RequestRow}
use Rattle.gl_model.specs.Configuring.{configure_from}
use Rattle.gl_model.specs.World.{World}
use Rattle.gl_core.specs.Kept.{StandsFor}
use Rattle.gl_core.specs.Shape.{KeepsLines}
use Rattle.gl_core.proofs.state.State.configure_each.Given as goal

abbrev pub invariant-loop-i : goal.invariant-loop-i
invariant-loop-i l =
    (l.self.requests ≡ l.initial.self.requests)
    × KeepsLines l.initial.self.places l.self.places
    × ((row : RequestRow) → row_at l.initial.self.requests l.found.fd ≡ Some row → (w : World) → StandsFor l.initial.self w
    → (v : World) × StandsFor l.self v × (configure_from l.place row.settings l.bits l.i (drop l.i (offsets_of l.lines)) v ≡ configure_from l.place row.settings l.bits 0 (offsets_of l.lines) w))
