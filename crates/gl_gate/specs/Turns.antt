-- A seat on its way through one turn.
use Rattle.std.specs.Prelude.{◌≡◌, ℕ, ◌+◌, ◌-◌, ◌%◌, ◌≤◌, List, [], ◌∷◌, ◌++◌, Some, true, false, length, drop}
use Rattle.gl_world.specs.declared.machine.Machine.{Ghosts}
use Rattle.gl_world.specs.declared.history.Entry.{Entry}
use Rattle.gl_world.specs.History.{StartsWith, Legal, fold, stage, entry, entries_of}
use Rattle.gl_rule.specs.declared.held.Held.{Held}
use Rattle.gl_rule.specs.Sums.{number_or_zero}
use Rattle.gl_rule.specs.Turn.{Seated, InSlot, NoStrangers, owes}
use Rattle.gl_rule.specs.Plays.{Finds}
use Rattle.gl_rule.specs.Commit.{MayCommit}
use Rattle.gl_rule.specs.Views.{with_ticket, with_turn}
use Rattle.gl_gate.specs.Calls.{IsInside, KnowsClosed, SamePass}
use Rattle.gl_world.specs.Ranks.{IsClosing, IsNotGone}
use Rattle.gl_rule.specs.Words.{word_values}

module _ {M C R G : Type 0} where
  -- with a ticket, before its turn
  pub record Waits (a : Seated M C R G) : Type 0 where
    pub no_slot : a.1 ≡ []
    pub ticket : a.0.ticket ≡ Some (number_or_zero a.0.ticket)
    pub no_turn : a.0.turn ≡ false
    pub live : a.0.spent ≡ false

  -- it drew the ticket that the word showed
  pub record Drew (a : Seated M C R G) (found : ℕ) (b : Seated M C R G) : Type 0 where
    pub view : b.0 ≡ with_ticket a.0 (number_or_zero b.0.ticket)
    pub ticket : found ≡ number_or_zero b.0.ticket % word_values
    pub waits : Waits b

module _ {M C R G : Type 0} (m : Ghosts M C R G) where
  -- it found its turn, the log and the slot
  abbrev pub FoundTurn : Seated M C R G → Seated M C R G → Type 0
  FoundTurn a b = (log : List (Entry M C R G)) × (h : Held M C R G) × (b ≡ (with_turn a.0 log, (0, h) ∷ [])) × Finds m a.0 log h

  -- it has the turn, and the slot is as it was left there
  pub record HasTurn (a : Seated M C R G) : Type 0 where
    pub held : Held M C R G
    pub slot : a.1 ≡ (0, held) ∷ []
    pub turn : a.0.turn ≡ true
    pub live : a.0.spent ≡ false
    pub in_slot : InSlot m a.0.seen a.0.room held
    pub room_left : (length a.0.seen - a.0.room) + owes m a.0 ≤ 512

  -- the call was made in the slot, as the machine answers it in the world of what was seen, and its entry stands after that
  pub record Made (a : Seated M C R G) (actor : ℕ) (call : C) (reply : R) (old new : List ℕ) (b : Seated M C R G) : Type 0 where
    pub held : Held M C R G
    pub seat : b ≡ (a.0, (0, held) ∷ [])
    pub in_slot : InSlot m (a.0.seen ++ entry actor call reply ∷ []) a.0.room held
    pub answer : reply ≡ m.reply_of (fold m a.0.seen) actor call
    pub bytes : let bytes = m.bytes_of (fold m a.0.seen) actor call in new ≡ bytes ++ drop (length bytes) old

  -- the entry in the slot may be committed
  pub record MayCommitSeat (a : Seated M C R G) : Type 0 where
    pub held : Held M C R G
    pub own_entry : Entry M C R G
    pub slot : a.1 ≡ (0, held) ∷ []
    pub turn : a.0.turn ≡ true
    pub live : a.0.spent ≡ false
    pub may : MayCommit m a.0 held own_entry

  -- who drew a ticket and waited has the turn, and has seen the whole history
  pub record Reached (a b : Seated M C R G) : Type 0 where
    pub turn : HasTurn b
    pub seen : StartsWith b.0.seen a.0.seen
    pub mine : b.0.mine ≡ a.0.mine
    pub passed : b.0.passed ≡ a.0.passed
    pub same : SamePass a.0 b.0
    pub no_knock : b.0.knocking ≡ a.0.knocking
    pub legal : Legal m b.0.seen
    pub own : entries_of b.0.number b.0.seen ≡ b.0.mine
    pub strangers : NoStrangers a.0 b.0.seen
    pub closed : (p : ℕ) → KnowsClosed a.0 p → IsClosing (stage m (fold m b.0.seen) p)
    pub named : (p : ℕ) → IsInside a.0 p → IsNotGone (stage m (fold m b.0.seen) p)
