-- What the rule says of the history and of places, in one sentence each.
use Rattle.std.specs.Prelude.{◌≡◌, ℕ, ◌<◌, List, [], ◌∷◌, ◌++◌, false}
use mathlib.Core.Option as maybe
use lib.ListN.{get_elem?}
use Rattle.atomic_table.specs.Table.{State, Step}
use Rattle.gl_world.specs.declared.machine.Machine.{Ghosts}
use Rattle.gl_world.specs.declared.history.Entry.{Entry}
use Rattle.gl_world.specs.History.{StartsWith, Legal, fold, stage}
use Rattle.gl_rule.specs.declared.held.Held.{Held}
use Rattle.gl_rule.specs.declared.view.View.{View}
use Rattle.gl_rule.specs.Sums.{times}
use Rattle.gl_rule.specs.Rule.{Rule}
use Rattle.gl_rule.specs.Steps.{ViewStep, IsMove, ComesOf}
use Rattle.gl_rule.specs.Turn.{Seated}
use Rattle.gl_rule.specs.Plays.{TicketTaken, TurnSought, EntryCommitted, TurnPassedOn, ViewLearnt, PlaceEntered, PlaceLeft, KnockEnded, PlaceClosed, GuardCounted}
use Rattle.gl_world.specs.Ranks.{IsClosing, IsNotGone}

module _ {M C R G : Type 0} (m : Ghosts M C R G) where
  -- nobody is inside a place that some pass knows drained
  abbrev pub DrainedIsEmpty : Type 0
  DrainedIsEmpty = (places : ℕ) (s : State (Held M C R G) (View M C R G)) → Rule m places s → (i j p : ℕ) (v w : View M C R G) → get_elem? s.views i ≡ maybe.some v → get_elem? s.views j ≡ maybe.some w
      → 0 < times p v.drained → 0 < times p w.inside → ⊥

  -- What the steps of a pass's seat tell it are moves of its view. Where a seat commits, its own entry stands last in its slot.
  pub record PlaysAreMoves : Type 0 where
    pub takes_ticket : (st : Step (Held M C R G)) (a b : Seated M C R G) (found : ℕ) → TicketTaken st a found b → IsMove a.0 b.0
    pub finds_turn : (st : Step (Held M C R G)) (a b : Seated M C R G) (found : ℕ) → TurnSought m st a found b → IsMove a.0 b.0
    pub commits : (st : Step (Held M C R G)) (a b : Seated M C R G) (found : ℕ) (h : Held M C R G) (e : Entry M C R G) → a.1 ≡ (0, h) ∷ [] → h.history.items ≡ a.0.seen ++ e ∷ []
        → EntryCommitted st a found b → IsMove a.0 b.0
    pub passes_on : (st : Step (Held M C R G)) (a b : Seated M C R G) (found : ℕ) → TurnPassedOn st a found b → IsMove a.0 b.0
    pub learns : (st : Step (Held M C R G)) (a b : Seated M C R G) (found : ℕ) → ViewLearnt m st a found b → IsMove a.0 b.0
    pub enters : (st : Step (Held M C R G)) (a b : Seated M C R G) (found : ℕ) → PlaceEntered st a found b → IsMove a.0 b.0
    pub backs_out : (st : Step (Held M C R G)) (a b : Seated M C R G) (found : ℕ) → KnockEnded st a found b → IsMove a.0 b.0
    pub leaves : (st : Step (Held M C R G)) (a b : Seated M C R G) (found : ℕ) → PlaceLeft st a found b → IsMove a.0 b.0
    pub closes : (st : Step (Held M C R G)) (a b : Seated M C R G) (found : ℕ) → PlaceClosed st a found b → IsMove a.0 b.0
    pub counts : (st : Step (Held M C R G)) (a b : Seated M C R G) (found : ℕ) → GuardCounted st a found b → IsMove a.0 b.0

  -- from the moment on at which some pass knows a place drained, nobody is inside it: in no state that comes of one that meets the rule
  abbrev pub KnownDrainedStaysEmpty : Type 0
  KnownDrainedStaysEmpty = (places : ℕ) (s t : State (Held M C R G) (View M C R G)) (steps : List (ViewStep M C R G)) → Rule m places s → ComesOf m places s steps t
      → (i j p : ℕ) (v w : View M C R G) → get_elem? s.views i ≡ maybe.some v → get_elem? t.views j ≡ maybe.some w → 0 < times p v.drained → times p w.inside ≡ 0

  -- a place that some pass knows closed is Leaving or Gone
  abbrev pub ClosedIsLeaving : Type 0
  ClosedIsLeaving = (places : ℕ) (s : State (Held M C R G) (View M C R G)) (rule : Rule m places s) (i p : ℕ) (v : View M C R G) → get_elem? s.views i ≡ maybe.some v
      → 0 < times p v.closed → IsClosing (stage m (fold m rule.0.log) p)

  -- a place that some pass is inside is not Gone
  abbrev pub InsideIsNotGone : Type 0
  InsideIsNotGone = (places : ℕ) (s : State (Held M C R G) (View M C R G)) (rule : Rule m places s) (i p : ℕ) (v : View M C R G) → get_elem? s.views i ≡ maybe.some v
      → 0 < times p v.inside → IsNotGone (stage m (fold m rule.0.log) p)

  -- there is one history, which is legal: what each pass that wasn't joined into another has seen is a beginning of it
  abbrev pub OneHistory : Type 0
  OneHistory = (places : ℕ) (s : State (Held M C R G) (View M C R G)) → Rule m places s → (history : List (Entry M C R G)) × Legal m history
      × ((i : ℕ) (v : View M C R G) → get_elem? s.views i ≡ maybe.some v → v.spent ≡ false → StartsWith history v.seen)
