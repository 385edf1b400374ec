-- The phases of a place in their order: Absent, Up, Leaving and Gone are 0 to 3.
use Rattle.std.specs.Prelude.{◌≡◌, ℕ, ◌<◌, ◌≤◌}
use Rattle.gl_base.specs.declared.phase.Phase.{Phase}
use Rattle.gl_base.specs.declared.phase.Phase.TheVariants.{Absent, Up, Leaving, Gone}

abbrev pub rank : Phase → ℕ
rank Absent = 0
rank Up = 1
rank Leaving = 2
rank Gone = 3

-- a place by its phase's number: its removal hasn't begun; it is leaving; it is gone; it is leaving or gone; it isn't gone
abbrev pub IsNotClosing : ℕ → Type 0
IsNotClosing stage = stage < 2

abbrev pub IsLeaving : ℕ → Type 0
IsLeaving stage = stage ≡ 2

abbrev pub IsGone : ℕ → Type 0
IsGone stage = stage ≡ 3

abbrev pub IsClosing : ℕ → Type 0
IsClosing stage = 2 ≤ stage

abbrev pub IsNotGone : ℕ → Type 0
IsNotGone stage = stage < 3
