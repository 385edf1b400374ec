-- What can happen to a machine when several passes make calls: passes enter and leave places, an entry is
-- made, a place is closed, and a closed place is found empty. One event after another, in any order.
use Rattle.std.specs.Prelude.{◌≡◌, ℕ, ◌≤◌, ◌==◌, ◌&&◌, cond, Bool, true, false, Some, List, [], ◌∷◌, ◌++◌}
use Rattle.gl_world.specs.declared.machine.Machine.{Ghosts}
use Rattle.gl_world.specs.declared.history.Entry.{Entry}
use Rattle.gl_world.specs.History.{entry, fold, stage, Legal}
use Rattle.gl_world.specs.Ranks.{IsClosing, IsGone, IsLeaving, IsNotClosing, IsNotGone}

-- an event of a pass: at a place, or with the call of the entry that it makes
pub data Event (C : Type 0) : Type 0 where
  Enter : ℕ → ℕ → Event C
  Commit : ℕ → C → Event C
  Leave : ℕ → ℕ → Event C
  Close : ℕ → ℕ → Event C
  Drain : ℕ → ℕ → Event C

-- the pairs of a pass and a place, with one pair put in or taken out
abbrev pub with_pair : (ℕ → ℕ → Bool) → ℕ → ℕ → ℕ → ℕ → Bool
with_pair pairs pass place a p = cond ((a == pass) && (p == place)) true (pairs a p)

abbrev pub without_pair : (ℕ → ℕ → Bool) → ℕ → ℕ → ℕ → ℕ → Bool
without_pair pairs pass place a p = cond ((a == pass) && (p == place)) false (pairs a p)

module _ {M C R G : Type 0} (m : Ghosts M C R G) where
  -- how it stands: the history, which pass is inside which place, the closed places, and which pass knows which place drained
  pub record Moment : Type 0 where
    pub history : List (Entry M C R G)
    pub inside : ℕ → ℕ → Bool
    pub closed : ℕ → Bool
    pub drained : ℕ → ℕ → Bool

  -- at first there is no entry, and nobody is inside
  abbrev pub beginning : Moment
  beginning = record { history = []; inside = λ _ _. false; closed = λ _. false; drained = λ _ _. false }

  abbrev pub world : Moment → m.World
  world s = fold m s.history

  -- the entry of the pass's call, with the machine's reply
  abbrev pub next_entry : Moment → ℕ → C → Entry M C R G
  next_entry s pass call = entry pass call (m.reply_of (world s) pass call)

  abbrev pub after : Moment → Event C → Moment
  after s (Enter pass place) = record s { inside = cond (s.closed place) s.inside (with_pair s.inside pass place) }
  after s (Commit pass call) = record s { history = s.history ++ next_entry s pass call ∷ [] }
  after s (Leave pass place) = record s { inside = without_pair s.inside pass place }
  after s (Close pass place) = record s { closed = λ p. cond (p == place) true (s.closed p) }
  after s (Drain pass place) = record s { drained = with_pair s.drained pass place }

  -- an entry of the pass in the history made the place Leaving
  abbrev pub BegunBy : List (Entry M C R G) → ℕ → ℕ → Type 0
  BegunBy history pass place = (earlier : List (Entry M C R G)) × (e : Entry M C R G) × (later : List (Entry M C R G)) × (history ≡ (earlier ++ e ∷ []) ++ later) × (e.actor ≡ pass)
      × IsNotClosing (stage m (fold m earlier) place) × IsLeaving (stage m (fold m (earlier ++ e ∷ [])) place)

  -- when an event can happen
  abbrev pub CanHappen : Moment → Event C → Type 0
  CanHappen s (Enter pass place) = Unit {0}
  CanHappen s (Commit pass call) = m.FitsCall call
      × ((p : ℕ) → m.place_of call ≡ Some p → s.inside pass p ≡ true)
      × ((p : ℕ) → m.refused_at call ≡ Some p → s.closed p ≡ true)
      × ((p : ℕ) → IsNotGone (stage m (world s) p) → IsGone (stage m (m.world_after (world s) pass call) p) → (b : ℕ) × (s.drained b p ≡ true))
  CanHappen s (Leave pass place) = s.inside pass place ≡ true
  CanHappen s (Close pass place) = BegunBy s.history pass place
  CanHappen s (Drain pass place) = (s.closed place ≡ true) × ((b : ℕ) → s.inside b place ≡ false)

  -- how it stands after a list of events, each of which could happen when it did
  abbrev pub after_all : Moment → List (Event C) → Moment
  after_all s [] = s
  after_all s (e ∷ es) = after_all (after s e) es

  abbrev pub CanAllHappen : Moment → List (Event C) → Type 0
  CanAllHappen s [] = Unit {0}
  CanAllHappen s (e ∷ es) = CanHappen s e × CanAllHappen (after s e) es

  -- whatever happens, the history is legal
  abbrev pub AlwaysLegal : Type 0
  AlwaysLegal = (events : List (Event C)) → CanAllHappen beginning events → Legal m (after_all beginning events).history

  -- a phase only goes forward, and a closed place is Leaving or Gone
  abbrev pub PhasesGoForward : Type 0
  PhasesGoForward = (earlier later : List (Event C)) → CanAllHappen beginning (earlier ++ later) → (p : ℕ)
      → (stage m (world (after_all beginning earlier)) p ≤ stage m (world (after_all beginning (earlier ++ later))) p)
      × ((after_all beginning earlier).closed p ≡ true → IsClosing (stage m (world (after_all beginning earlier)) p))

  -- from the moment on at which some pass knows a place drained, nobody is inside it
  abbrev pub DrainedStaysEmpty : Type 0
  DrainedStaysEmpty = (earlier later : List (Event C)) → CanAllHappen beginning (earlier ++ later) → (b p : ℕ) → (after_all beginning earlier).drained b p ≡ true
      → (a : ℕ) → (after_all beginning (earlier ++ later)).inside a p ≡ false

  -- no guarded call stands behind the entry that made its place Gone
  abbrev pub NothingAfterGone : Type 0
  NothingAfterGone = (events : List (Event C)) → CanAllHappen beginning events → (earlier between later : List (Entry M C R G)) (e : Entry M C R G) (p : ℕ)
      → (after_all beginning events).history ≡ ((earlier ++ between) ++ e ∷ []) ++ later → IsGone (stage m (fold m earlier) p) → m.place_of e.call ≡ Some p → ⊥
