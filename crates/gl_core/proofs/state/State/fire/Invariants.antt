-- What is left to settle, of another world for which the core stands, comes to what was to settle at first.
use Rattle.std.proofs.Common.{◌≡◌, length}
use Rattle.gl_debounce.specs.Fire.{fires}
use Rattle.gl_model.specs.Clock.{fire}
use Rattle.gl_model.specs.World.{World}
use Rattle.gl_core.specs.HeldLines.{HoldersHaveLines}
use Rattle.gl_core.specs.Kept.{StandsFor}
use Rattle.gl_core.proofs.state.State.fire.Given as goal

abbrev pub invariant-loop-line : goal.invariant-loop-line
invariant-loop-line l =
    HoldersHaveLines l.self.places l.self.requests × ((w : World) → StandsFor l.initial.self w → (v : World) × StandsFor l.self v × (fire v ≡ fire w))

abbrev pub decreases-loop-line : goal.decreases-loop-line
decreases-loop-line l = length (fires l.self.mono l.self.timers)
