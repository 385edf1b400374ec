-- What holds of each world that a legal history leads to, as far as places and their removal go.
use Rattle.std.specs.Prelude.{◌≡◌, ◌≢◌, ℕ, ◌≤◌, Some, List, [], ◌∷◌, ◌++◌, ◌⊎◌}
use Rattle.gl_world.specs.declared.machine.Machine.{Ghosts}
use Rattle.gl_world.specs.declared.history.Entry.{Entry}
use Rattle.gl_world.specs.History.{fold, stage, Answered, Legal}
use Rattle.gl_world.specs.Removal.{Removes}
use Rattle.gl_world.specs.Ranks.{IsClosing, IsGone, IsLeaving}

module _ {M C R G : Type 0} (m : Ghosts M C R G) where
  -- it is sound
  abbrev pub WorldsAreSound : Type 0
  WorldsAreSound = (history : List (Entry M C R G)) → Answered m history → m.Sound (fold m history)

  -- a place that is Leaving has an actor that removes it
  abbrev pub LeavingHasRemover : Type 0
  LeavingHasRemover = (history : List (Entry M C R G)) (p : ℕ) → Answered m history → IsLeaving (stage m (fold m history) p)
      → (actor : ℕ) × (m.remover_of (fold m history) p ≡ Some actor)

  -- another actor removes the place
  abbrev pub RemovedByAnother : m.World → ℕ → ℕ → Type 0
  RemovedByAnother w actor place = (other : ℕ) × (other ≢ actor) × Removes m w other place

  -- a place that is Leaving or Gone and that the actor doesn't remove is Gone, or another's
  abbrev pub ClosedIsGoneOrAnothers : Type 0
  ClosedIsGoneOrAnothers = (actor : ℕ) (history : List (Entry M C R G)) (p : ℕ) → Answered m history → IsClosing (stage m (fold m history) p)
      → (Removes m (fold m history) actor p → ⊥) → IsGone (stage m (fold m history) p) ⊎ RemovedByAnother (fold m history) actor p

  -- a phase only goes forward
  abbrev pub PhasesNeverFall : Type 0
  PhasesNeverFall = (earlier later : List (Entry M C R G)) (p : ℕ) → Answered m (earlier ++ later) → stage m (fold m earlier) p ≤ stage m (fold m (earlier ++ later)) p

  -- from an entry on that was refused at the closed guard of its place, the place is Leaving or Gone
  abbrev pub RefusedIsClosing : Type 0
  RefusedIsClosing = (earlier later : List (Entry M C R G)) (e : Entry M C R G) (p : ℕ) → Legal m ((earlier ++ e ∷ []) ++ later)
      → m.refused_at e.call ≡ Some p → IsClosing (stage m (fold m earlier) p) × IsClosing (stage m (fold m ((earlier ++ e ∷ []) ++ later)) p)

  -- no guarded call stands behind the entry that made its place Gone
  abbrev pub NothingBehindGone : Type 0
  NothingBehindGone = (earlier between later : List (Entry M C R G)) (e : Entry M C R G) (p : ℕ) → Legal m (((earlier ++ between) ++ e ∷ []) ++ later)
      → IsGone (stage m (fold m earlier) p) → m.place_of e.call ≡ Some p → ⊥
