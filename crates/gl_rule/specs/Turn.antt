-- The rule of the turn: of the ticket word (word 0), the serving word (word 1), and the slot in which the
-- machine lies. Tickets are counted from the first one on, and the words are these numbers modulo 2^64.
use Rattle.std.specs.Prelude.{◌≡◌, ℕ, ◌+◌, ◌-◌, ◌%◌, ◌<◌, ◌≤◌, ◌==◌, cond, List, [], ◌∷◌, Option, Some, None, Bool, true, false, length, slice_index}
use Rattle.std.specs.Vec.{vec_capacity}
use mathlib.Core.Option as maybe
use lib.ListN.{get_elem?}
use Rattle.atomic_table.specs.Table.{State, Me}
use Rattle.gl_world.specs.declared.machine.Machine.{Ghosts}
use Rattle.gl_world.specs.declared.history.Entry.{Entry}
use Rattle.gl_world.specs.History.{StartsWith, Answered, fold, owed, entries_of}
use Rattle.gl_rule.specs.declared.held.Held.{Held}
use Rattle.gl_rule.specs.declared.view.View.{View}
use Rattle.gl_rule.specs.declared.view.Joined.{Joined}
use Rattle.gl_rule.specs.Sums.{total, count_some}
use Rattle.gl_rule.specs.Words.{word_values}

-- a ticket lies from the serving number up to the next ticket
abbrev pub InTurn : ℕ → ℕ → Option ℕ → Type 0
InTurn served issued (Some t) = (served ≤ t) × (t < issued)
InTurn served issued None = Unit {0}

-- a pass's view, and the slots that it has
abbrev pub Seated : Type 0 → Type 0 → Type 0 → Type 0 → Type 0
Seated M C R G = Me (Held M C R G) (View M C R G)

module _ {M C R G : Type 0} where
  abbrev pub tickets : List (View M C R G) → ℕ
  tickets views = total (λ v. count_some v.ticket) views

  abbrev pub passed_on : List (View M C R G) → ℕ
  passed_on views = total (λ v. v.passed) views

  -- how often n is the number of a pass that was joined
  abbrev pub times_joined : ℕ → List (Joined M C R G) → ℕ
  times_joined n js = total (λ j. cond (j.number == n) 1 0) js

  -- how often n is the number of this pass, or of one that was joined into it
  abbrev pub times_held : ℕ → View M C R G → ℕ
  times_held n v = cond v.spent 0 (cond (v.number == n) 1 0) + times_joined n v.joined

  -- 1 for a pass that was not joined into another
  abbrev pub is_live : View M C R G → ℕ
  is_live v = cond v.spent 0 1

  -- of the first pass: no entry here has a number that no pass was made with
  abbrev pub NoStrangers : View M C R G → List (Entry M C R G) → Type 0
  NoStrangers v entries = v.number ≡ 0 → (1 ≤ v.made) × ((n : ℕ) → v.made ≤ n → entries_of n entries ≡ [])

module _ {M C R G : Type 0} (m : Ghosts M C R G) where
  -- the second entries that the pass owes
  abbrev pub owes : View M C R G → ℕ
  owes v = owed m v.mine

  -- what lies in the slot while it is at home: the machine stands for the world after the log, the log is beside it, and there is space
  pub record InSlot (log : List (Entry M C R G)) (room : ℕ) (h : Held M C R G) : Type 0 where
    pub stands : m.stands_for h.machine (fold m log)
    pub kept : h.history.items ≡ log
    pub asked : h.room ≡ room
    pub space : room + 512 ≤ vec_capacity h.history

  -- at home, or with the pass that has the turn
  abbrev pub SlotIs : List (Entry M C R G) → ℕ → Option ℕ → List (maybe.Option (Held M C R G)) → Type 0
  SlotIs log room None homes = (h : Held M C R G) × (homes ≡ maybe.some h ∷ []) × InSlot log room h
  SlotIs log room (Some holder) homes = homes ≡ maybe.none ∷ []

  module _ (log : List (Entry M C R G)) (served issued room : ℕ) (merged : ℕ → Bool) where
    -- what holds of a pass that was not joined into another; its number is its place among the views
    pub record Knows (place : ℕ) (v : View M C R G) : Type 0 where
      pub number : v.number ≡ place
      pub room_is : v.room ≡ room
      pub seen : StartsWith log v.seen
      pub had_seen : StartsWith v.seen v.had_seen
      pub mine : entries_of place log ≡ v.mine
      pub seen_mine : entries_of place v.seen ≡ v.mine
      pub ticket : InTurn served issued v.ticket
      pub turn : v.turn ≡ true → (v.ticket ≡ Some served) × (v.seen ≡ log)
      pub few : owes v ≤ 2
      pub joined : (k : ℕ) (j : Joined M C R G) → get_elem? v.joined k ≡ maybe.some j → (merged j.number ≡ true) × (entries_of j.number log ≡ j.mine)

  pub record TurnRule (s : State (Held M C R G) (View M C R G)) : Type 0 where
    -- the log: the one history of all entries
    pub log : List (Entry M C R G)
    pub room : ℕ
    -- the numbers of the passes that were joined into others, and who has the turn
    pub merged : ℕ → Bool
    pub holder : Option ℕ
    pub answered : Answered m log
    -- the words
    pub two_words : 2 ≤ length s.words
    pub serving : slice_index s.words 1 ≡ (length log + passed_on s.views) % word_values
    pub next_ticket : slice_index s.words 0 ≡ ((length log + passed_on s.views) + tickets s.views) % word_values
    -- the passes
    pub few_passes : length s.views ≤ 256
    pub each : (j : ℕ) (v : View M C R G) → get_elem? s.views j ≡ maybe.some v → v.spent ≡ false
        → Knows log (length log + passed_on s.views) ((length log + passed_on s.views) + tickets s.views) room merged j v
    pub spent : (j : ℕ) (v : View M C R G) → get_elem? s.views j ≡ maybe.some v → v.spent ≡ merged j
    pub idle : (j : ℕ) (v : View M C R G) → get_elem? s.views j ≡ maybe.some v → v.spent ≡ true → (v.ticket ≡ None) × (v.turn ≡ false) × (owes v ≡ 0)
    -- a number that was not given yet has no entry
    pub others : (n : ℕ) → length s.views ≤ n → (entries_of n log ≡ []) × (merged n ≡ false) × (total (times_held n) s.views ≡ 0)
    pub first : (v : View M C R G) → get_elem? s.views 0 ≡ maybe.some v → (v.spent ≡ false) × (v.made ≡ length s.views)
    -- no two tickets are the same
    pub apart : (i j : ℕ) (v w : View M C R G) (t : ℕ) → get_elem? s.views i ≡ maybe.some v → get_elem? s.views j ≡ maybe.some w → v.ticket ≡ Some t → w.ticket ≡ Some t → i ≡ j
    -- one pass at most has the turn, and the slot is its
    pub only : (j : ℕ) (v : View M C R G) → get_elem? s.views j ≡ maybe.some v → v.turn ≡ true → holder ≡ Some j
    pub has : (j : ℕ) → holder ≡ Some j → (v : View M C R G) × (get_elem? s.views j ≡ maybe.some v) × (v.turn ≡ true)
    pub slot : SlotIs log room holder s.homes
    -- each number that was given stands once, among the passes and those that were joined into them
    pub once : (n : ℕ) → n < length s.views → total (times_held n) s.views ≡ 1
    pub counted : total is_live s.views + total (λ v. length v.joined) s.views ≡ length s.views
    -- the entries above the room, with all that is owed
    pub roomy : (length log - room) + total owes s.views ≤ 512
