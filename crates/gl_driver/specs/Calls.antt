-- What a call of a driver needs of a pass, and what it leaves of it.
use Rattle.std.specs.Prelude.{◌≡◌, ℕ, ◌≤◌, true, List, [], ◌∷◌, length, Option, Some, None, IfSome}
use Rattle.gl_base.specs.Lines.{IsLineCount}
use Rattle.gl_world.specs.declared.machine.Machine.{Ghosts}
use Rattle.gl_world.specs.declared.history.Entry.{Entry}
use Rattle.gl_world.specs.History.{ended_in}
use Rattle.gl_world.specs.Deeds.{Deed, entries_in}
use Rattle.gl_rule.specs.declared.view.View.{View}
use Rattle.gl_rule.specs.Turn.{owes}
use Rattle.gl_gate.specs.Values.{GateValue}
use Rattle.gl_gate.specs.Calls.{IsInside, HoldsNoTurn, KnowsAsMuch}
use Rattle.gl_gate.specs.Grown.{Grew}
use Rattle.gl_base.specs.declared.op.Op.{Op}
use Rattle.gl_base.specs.declared.op.Op.TheVariants.{Apply, Get, Set}
use Rattle.gl_driver.specs.Told.{Told, counts_for, with_call_counting}
use Rattle.gl_driver.specs.declared.map.Map.{Map}

-- an operation on 1 to 64 lines, with as many settings
abbrev pub FitsOp : Op → Type 0
FitsOp (Get lines) = IsLineCount lines.count
FitsOp (Set lines mask bits) = IsLineCount lines.count
FitsOp (Apply lines settings) = IsLineCount lines.count × (settings.count ≡ lines.count)

-- the last of some entries
abbrev pub last_of : {A : Type 0} → List A → Option A
last_of [] = None
last_of (x ∷ []) = Some x
last_of (x ∷ y ∷ ys) = last_of (y ∷ ys)

module _ {M C R G : Type 0} (m : Ghosts M C R G) where
  -- a driver that makes entries of its own needs a gate of so many places, and a pass that owes one second entry at most and is inside no other place
  pub record MayMakeEntries (places : ℕ) (gate : GateValue) (v : View M C R G) (place : ℕ) : Type 0 where
    pub all_places : gate.places ≡ places
    pub owed : owes m v ≤ 1
    pub inside : (p : ℕ) → IsInside v p → p ≡ place

  -- a pass whose last entry owes a second one owes that at this place, if at any
  abbrev pub OwesAt : View M C R G → ℕ → Type 0
  OwesAt v place = IfSome (last_of v.mine) (λ e. m.begins e.call e.reply ≡ true → (p : ℕ) → m.place_of e.call ≡ Some p → p ≡ place)

  -- the pass after a call of a driver in which it did this
  pub record IsBack (v : View M C R G) (did : List (Deed M C R G)) (w : View M C R G) : Type 0 where
    pub grew : Grew m v did w
    pub inside : w.inside ≡ v.inside
    pub no_turn : HoldsNoTurn w
    pub owed : owes m w ≡ owes m v
    pub knows : KnowsAsMuch v w

  -- One call of a driver which makes at most `limit` entries of its own: what the pass did in it, that its entries are such as the driver may
  -- make, what the port tells then, and that the answer is one that follows. `Own` and `Follows` are the driver's; `map` is the one by which it
  -- went.
  module _ (limit : ℕ) (Own : Option Map → Op → List (Entry M C R G) → Type 0) (Follows : Option Map → Option Told → Op → List (Deed M C R G) → ℕ → ℕ → Option ℕ → Type 0) where
    pub record Drives (map : Option Map) (op : Op) (before after : Option Told) (answer : Option ℕ) (v w : View M C R G) : Type 0 where
      pub did : List (Deed M C R G)
      pub few : length did ≤ limit
      pub own : Own map op (entries_in did)
      pub back : IsBack v did w
      pub told : after ≡ with_call_counting (counts_for map (ended_in m (entries_in did))) op answer before
      pub follows : Follows map before op did v.room (length w.seen) answer
