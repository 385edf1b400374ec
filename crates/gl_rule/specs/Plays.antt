-- What each atomic step tells the pass that makes it: of the step, the seat before, the value that the step
-- found, and the seat after. The place of a guard word is the word less 2.
use Rattle.std.specs.Prelude.{◌≡◌, ◌≢◌, ℕ, ◌+◌, ◌-◌, ◌%◌, ◌<◌, ◌≤◌, List, [], ◌∷◌, ◌++◌, length}
use Rattle.atomic_table.specs.Table.{Step}
use Rattle.gl_world.specs.declared.machine.Machine.{Ghosts}
use Rattle.gl_world.specs.declared.history.Entry.{Entry}
use Rattle.gl_world.specs.History.{StartsWith, Legal, fold, stage, entries_of}
use Rattle.gl_rule.specs.declared.held.Held.{Held}
use Rattle.gl_rule.specs.declared.view.View.{View}
use Rattle.gl_rule.specs.Views.{with_ticket, with_turn, with_entry, with_turn_passed, with_inside, without_inside, with_knock, without_knock, with_closed, with_count, with_drained}
use Rattle.gl_rule.specs.Sums.{times, number_or_zero}
use Rattle.gl_rule.specs.Turn.{Seated, InSlot, NoStrangers, owes}
use Rattle.gl_world.specs.Ranks.{IsClosing, IsNotGone}
use Rattle.gl_rule.specs.Words.{closed_bit, word_values}

module _ {M C R G : Type 0} where
  -- it drew the ticket that the word showed
  abbrev pub TicketTaken : Step (Held M C R G) → Seated M C R G → ℕ → Seated M C R G → Type 0
  TicketTaken st a found b = (t : ℕ) × (found ≡ t % word_values) × (b ≡ (with_ticket a.0 t, a.1))

  -- the entry that stands last in its slot is its own, and the slot is at home again
  abbrev pub EntryCommitted : Step (Held M C R G) → Seated M C R G → ℕ → Seated M C R G → Type 0
  EntryCommitted st a found b = (h : Held M C R G) (e : Entry M C R G) → a.1 ≡ (0, h) ∷ [] → h.history.items ≡ a.0.seen ++ e ∷ [] → b ≡ (with_entry a.0 e, [])

  abbrev pub TurnPassedOn : Step (Held M C R G) → Seated M C R G → ℕ → Seated M C R G → Type 0
  TurnPassedOn st a found b = b ≡ (with_turn_passed a.0, [])

  -- the place was open, and it is inside; or the place was closed, which it knows now. Where it knew the place closed, the bit stood.
  abbrev pub PlaceEntered : Step (Held M C R G) → Seated M C R G → ℕ → Seated M C R G → Type 0
  PlaceEntered st a found b = (found < closed_bit → b ≡ (with_inside a.0 (st.word - 2), a.1)) × (closed_bit ≤ found → b ≡ (with_knock a.0 (st.word - 2), a.1))
      × (0 < times (st.word - 2) a.0.closed → closed_bit ≤ found)

  abbrev pub PlaceLeft : Step (Held M C R G) → Seated M C R G → ℕ → Seated M C R G → Type 0
  PlaceLeft st a found b = b ≡ (without_inside a.0 (st.word - 2), a.1)

  abbrev pub KnockEnded : Step (Held M C R G) → Seated M C R G → ℕ → Seated M C R G → Type 0
  KnockEnded st a found b = b ≡ (without_knock a.0 (st.word - 2), a.1)

  abbrev pub PlaceClosed : Step (Held M C R G) → Seated M C R G → ℕ → Seated M C R G → Type 0
  PlaceClosed st a found b = b ≡ (with_closed a.0 (st.word - 2), a.1)

  -- it counted those who are there. Where it found the bit and count 0, the place is drained; where it knew the place closed, the bit stood.
  abbrev pub GuardCounted : Step (Held M C R G) → Seated M C R G → ℕ → Seated M C R G → Type 0
  GuardCounted st a found b = (found ≡ closed_bit → b ≡ (with_drained a.0 (st.word - 2), a.1)) × (found ≢ closed_bit → b ≡ (with_count a.0 (found % closed_bit), a.1))
      × (0 < times (st.word - 2) a.0.closed → closed_bit ≤ found)

module _ {M C R G : Type 0} (m : Ghosts M C R G) where
  -- what the pass that has the turn finds: the log, and what lies in the slot
  pub record Finds (v : View M C R G) (log : List (Entry M C R G)) (h : Held M C R G) : Type 0 where
    pub begins : StartsWith log v.seen
    pub legal : Legal m log
    pub in_slot : InSlot m log v.room h
    pub own : entries_of v.number log ≡ v.mine
    pub strangers : NoStrangers v log
    pub room_left : (length log - v.room) + owes m v ≤ 512
    -- the places that it knows closed or drained are Leaving or Gone, and those that it is inside are not Gone
    pub closed : (p : ℕ) → 0 < times p v.closed → IsClosing (stage m (fold m log) p)
    pub drained : (p : ℕ) → 0 < times p v.drained → IsClosing (stage m (fold m log) p)
    pub inside : (p : ℕ) → 0 < times p v.inside → IsNotGone (stage m (fold m log) p)

  -- where the serving word is its ticket, it has the turn and the slot
  abbrev pub TurnSought : Step (Held M C R G) → Seated M C R G → ℕ → Seated M C R G → Type 0
  TurnSought st a found b =
      (found ≡ number_or_zero a.0.ticket % word_values → (log : List (Entry M C R G)) × (h : Held M C R G) × (b ≡ (with_turn a.0 log, (0, h) ∷ [])) × Finds a.0 log h)
      × (found ≢ number_or_zero a.0.ticket % word_values → b ≡ a)

  -- what a pass learns of its own view
  pub record Learnt (v : View M C R G) : Type 0 where
    pub own : entries_of v.number v.seen ≡ v.mine
    pub legal : Legal m v.seen
    pub few : owes m v ≤ 2
    pub had_seen : StartsWith v.seen v.had_seen
    pub strangers : NoStrangers v v.seen

  abbrev pub ViewLearnt : Step (Held M C R G) → Seated M C R G → ℕ → Seated M C R G → Type 0
  ViewLearnt st a found b = (b ≡ a) × Learnt a.0
