-- The rule of the guards. The guard of place p is word p + 2: how many passes are inside or knocking, and
-- the closed bit.
use Rattle.std.specs.Prelude.{◌≡◌, ℕ, ◌+◌, ◌<◌, ◌≤◌, cond, List, [], Bool, true, length, slice_index}
use mathlib.Core.Option as maybe
use lib.ListN.{get_elem?}
use Rattle.atomic_table.specs.Table.{State}
use Rattle.gl_world.specs.declared.machine.Machine.{Ghosts}
use Rattle.gl_world.specs.declared.history.Entry.{Entry}
use Rattle.gl_world.specs.History.{fold, stage, Placed}
use Rattle.gl_rule.specs.declared.held.Held.{Held}
use Rattle.gl_rule.specs.declared.view.View.{View}
use Rattle.gl_rule.specs.Sums.{total, times}
use Rattle.gl_world.specs.Ranks.{IsClosing, IsGone, IsNotGone}
use Rattle.gl_rule.specs.Words.{closed_bit}

module _ {M C R G : Type 0} where
  -- how often the pass is counted in the guard of p
  abbrev pub at_guard : ℕ → View M C R G → ℕ
  at_guard p v = times p v.inside + times p v.knocking

  abbrev pub times_inside : ℕ → View M C R G → ℕ
  times_inside p v = times p v.inside

-- the guard word of a place
abbrev pub guard_word : Bool → ℕ → ℕ
guard_word shut count = cond shut closed_bit 0 + count

module _ {M C R G : Type 0} (m : Ghosts M C R G) (places : ℕ) (log : List (Entry M C R G)) (s : State (Held M C R G) (View M C R G)) where
  pub record GuardRule : Type 0 where
    -- the places whose closed bit stands
    pub shut : ℕ → Bool
    pub width : length s.words ≡ places + 2
    pub word : (p : ℕ) → p + 2 < length s.words → slice_index s.words (p + 2) ≡ guard_word (shut p) (total (at_guard p) s.views)
    -- a pass is at a guard once at most
    pub once : (j : ℕ) (v : View M C R G) (p : ℕ) → get_elem? s.views j ≡ maybe.some v → at_guard p v ≤ 1
    -- who knows a place closed is right, and so is who knows it drained: nobody is inside
    pub knows_closed : (j : ℕ) (v : View M C R G) (p : ℕ) → get_elem? s.views j ≡ maybe.some v → 0 < times p v.closed → shut p ≡ true
    pub knows_drained : (j : ℕ) (v : View M C R G) (p : ℕ) → get_elem? s.views j ≡ maybe.some v → 0 < times p v.drained → (shut p ≡ true) × (total (times_inside p) s.views ≡ 0)
    -- a closed place is Leaving or Gone, and a place that is Gone is closed
    pub closing : (p : ℕ) → shut p ≡ true → IsClosing (stage m (fold m log) p)
    pub gone_closed : (p : ℕ) → IsGone (stage m (fold m log) p) → shut p ≡ true
    -- each entry found its place as it had to
    pub placed : Placed m log
    -- nobody is inside a place that is Gone
    pub stands : (j : ℕ) (v : View M C R G) (p : ℕ) → get_elem? s.views j ≡ maybe.some v → 0 < times p v.inside → IsNotGone (stage m (fold m log) p)
    -- who was joined into another is inside nowhere
    pub nowhere : (j : ℕ) (v : View M C R G) → get_elem? s.views j ≡ maybe.some v → v.spent ≡ true → v.inside ≡ []
