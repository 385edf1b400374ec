-- How what all passes know changes, one atomic step after another. A step that changes nothing of it isn't listed.
use Rattle.std.specs.Prelude.{◌≡◌, ◌≢◌, ℕ, List, [], ◌∷◌, ◌++◌, slice_set, ◌⊎◌}
use mathlib.Core.Option as maybe
use lib.ListN.{get_elem?}
use Rattle.atomic_table.specs.Table.{State}
use Rattle.gl_world.specs.declared.machine.Machine.{Ghosts}
use Rattle.gl_world.specs.declared.history.Entry.{Entry}
use Rattle.gl_rule.specs.declared.held.Held.{Held}
use Rattle.gl_rule.specs.declared.view.View.{View}
use Rattle.gl_rule.specs.Rule.{Rule}
use Rattle.gl_rule.specs.Views.{newcomer, joined_into_another, with_ticket, with_turn, with_entry, with_turn_passed, with_one_more, taking_in, with_inside, without_inside, with_knock, without_knock, with_closed, with_count, with_drained}

-- a step that changes what its own pass knows, at a place where it is at one
pub data Move (M C R G : Type 0) : Type 0 where
  TakeTicket : ℕ → Move M C R G
  FindTurn : List (Entry M C R G) → Move M C R G
  Commit : Entry M C R G → Move M C R G
  PassOn : Move M C R G
  Enter : ℕ → Move M C R G
  Knock : ℕ → Move M C R G
  BackOut : ℕ → Move M C R G
  Leave : ℕ → Move M C R G
  Close : ℕ → Move M C R G
  Count : ℕ → Move M C R G
  Drain : ℕ → Move M C R G

-- a pass, by its place among the views, moves, makes one more pass, or takes another one in
pub data ViewStep (M C R G : Type 0) : Type 0 where
  Moves : ℕ → Move M C R G → ViewStep M C R G
  Splits : ℕ → ViewStep M C R G
  Joins : ℕ → ℕ → ViewStep M C R G

module _ {M C R G : Type 0} where
  abbrev pub moved : View M C R G → Move M C R G → View M C R G
  moved v (TakeTicket ticket) = with_ticket v ticket
  moved v (FindTurn log) = with_turn v log
  moved v (Commit e) = with_entry v e
  moved v PassOn = with_turn_passed v
  moved v (Enter place) = with_inside v place
  moved v (Knock place) = with_knock v place
  moved v (BackOut place) = without_knock v place
  moved v (Leave place) = without_inside v place
  moved v (Close place) = with_closed v place
  moved v (Count found) = with_count v found
  moved v (Drain place) = with_drained v place

  -- the view moved, or stayed as it was
  abbrev pub IsMove : View M C R G → View M C R G → Type 0
  IsMove v w = (w ≡ v) ⊎ ((move : Move M C R G) × (w ≡ moved v move))

  -- the views before and after a step
  abbrev pub IsStep : List (View M C R G) → ViewStep M C R G → List (View M C R G) → Type 0
  IsStep before (Moves i move) after = (v : View M C R G) × (get_elem? before i ≡ maybe.some v) × (after ≡ slice_set before i (moved v move))
  IsStep before (Splits i) after = (v : View M C R G) × (get_elem? before i ≡ maybe.some v)
      × (after ≡ slice_set before i (with_one_more v) ++ newcomer v.made v.room v.seen 0 v.closed v.drained ∷ [])
  IsStep before (Joins i j) after = (v : View M C R G) × (w : View M C R G) × (get_elem? before i ≡ maybe.some v) × (j ≢ i) × (get_elem? before j ≡ maybe.some w)
      × (after ≡ slice_set (slice_set before i (taking_in v w)) j joined_into_another)

module _ {M C R G : Type 0} (m : Ghosts M C R G) (places : ℕ) where
  -- one state of the table comes of another by these steps, and each state after the first one meets the rule
  abbrev pub ComesOf : State (Held M C R G) (View M C R G) → List (ViewStep M C R G) → State (Held M C R G) (View M C R G) → Type 0
  ComesOf s [] t = t ≡ s
  ComesOf s (step ∷ steps) t = (next : State (Held M C R G) (View M C R G)) × Rule m places next × IsStep s.views step next.views × ComesOf next steps t
