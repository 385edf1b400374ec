use Rattle.std.proofs.Common.{◌≡◌, ◌<◌, ◌≤◌, ℕ, length}
use Rattle.std.specs.Prelude.{slice_get}
use Rattle.gl_session.specs.Ports.{IsTaught}
use Rattle.gl_session.proofs.teaching.teach_all.Given as goal

-- the first ports have learned them so far, and those after them are as they were
abbrev pub invariant-loop-n : goal.invariant-loop-n
invariant-loop-n g l =
    ((k : ℕ) → k < l.n → IsTaught g.D.Port.Port.maps g.D.Port.Port.maps_left g.D.Port.Port.told g.D.Port.Port.faults l.maps (slice_get l.initial.ports k) (slice_get l.ports k))
    × ((k : ℕ) → l.n ≤ k → slice_get l.ports k ≡ slice_get l.initial.ports k)
    × (length l.ports ≡ length l.initial.ports)
