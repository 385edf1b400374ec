use Rattle.std.proofs.Common.{◌≡◌, drop}
use Rattle.gl_base.specs.Lines.{offsets_of}
use Rattle.gl_model.specs.Notify.{notify_each}
use Rattle.gl_model.specs.World.{World}
use Rattle.gl_core.specs.Kept.{StandsFor}
use Rattle.gl_core.proofs.state.State.notify_each.Given as goal

-- nothing but the files has changed, and what is left to tell makes the whole
abbrev pub invariant-loop-offset : goal.invariant-loop-offset
invariant-loop-offset l =
    (l.self ≡ record l.initial.self { files = l.self.files })
    × ((w : World) → StandsFor l.initial.self w
    → (v : World) × StandsFor l.self v × (notify_each l.place (drop l.offset-index (offsets_of l.lines)) l.kind v ≡ notify_each l.place (offsets_of l.lines) l.kind w))
