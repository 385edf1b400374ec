-- What the calls of a gate need of a pass, and what they make of it.
use Rattle.std.specs.Prelude.{◌≡◌, ◌≢◌, ℕ, ◌+◌, cond, ◌<◌, ◌≤◌, List, [], ◌∷◌, ◌++◌, Some, true, false, length, drop}
use mathlib.Core.Option.{some}
use lib.ListN.{get_elem?}
use Rattle.gl_world.specs.declared.machine.Machine.{Ghosts}
use Rattle.gl_world.specs.declared.history.Entry.{Entry}
use Rattle.gl_world.specs.History.{StartsWith, Legal, fold, stage, entry, entries_of}
use Rattle.gl_world.specs.Removal.{Removes, RemovalsGoOn}
use Rattle.gl_rule.specs.declared.view.View.{View}
use Rattle.gl_rule.specs.declared.view.Joined.{Joined}
use Rattle.gl_rule.specs.Sums.{times}
use Rattle.gl_rule.specs.Turn.{NoStrangers, owes}
use Rattle.gl_world.specs.Ranks.{IsClosing}

module _ {M C R G : Type 0} where
  abbrev pub IsInside : View M C R G → ℕ → Type 0
  IsInside v place = 0 < times place v.inside

  -- it isn't inside the place
  abbrev pub IsOutside : View M C R G → ℕ → Type 0
  IsOutside v place = times place v.inside ≡ 0

  abbrev pub KnowsClosed : View M C R G → ℕ → Type 0
  KnowsClosed v place = 0 < times place v.closed

  abbrev pub KnowsDrained : View M C R G → ℕ → Type 0
  KnowsDrained v place = 0 < times place v.drained

  -- it isn't in the middle of a call
  abbrev pub HoldsNoTurn : View M C R G → Type 0
  HoldsNoTurn v = v.turn ≡ false

  -- the entries of what it has seen with its number are its own entries, in order
  abbrev pub HasItsOwn : View M C R G → Type 0
  HasItsOwn v = entries_of v.number v.seen ≡ v.mine

  -- a pass that made a call of its gate is the same pass in the same places, and knows the same of places
  pub record SamePass (v w : View M C R G) : Type 0 where
    pub number : w.number ≡ v.number
    pub room : w.room ≡ v.room
    pub joined : w.joined ≡ v.joined
    pub made : w.made ≡ v.made
    pub inside : w.inside ≡ v.inside
    pub closed : w.closed ≡ v.closed
    pub drained : w.drained ≡ v.drained

  -- the entries of each pass that was joined are in the history, and no other entries with its number
  abbrev pub HasAllOf : List (Joined M C R G) → List (Entry M C R G) → Type 0
  HasAllOf joined history = (k : ℕ) (j : Joined M C R G) → get_elem? joined k ≡ some j → entries_of j.number history ≡ j.mine

  -- it knows closed and drained what it knew, and perhaps more
  pub record KnowsAsMuch (v w : View M C R G) : Type 0 where
    pub closed : (p : ℕ) → KnowsClosed v p → KnowsClosed w p
    pub drained : (p : ℕ) → KnowsDrained v p → KnowsDrained w p

  -- it knows closed and drained just what it knew
  pub record KnowsTheSame (v w : View M C R G) : Type 0 where
    pub closed : w.closed ≡ v.closed
    pub drained : w.drained ≡ v.drained

  -- of every other place it knows nothing that it didn't know
  pub record LearnsOnlyOf (place : ℕ) (v w : View M C R G) : Type 0 where
    pub closed : (p : ℕ) → p ≢ place → KnowsClosed w p → KnowsClosed v p
    pub drained : (p : ℕ) → p ≢ place → KnowsDrained w p → KnowsDrained v p

  -- a look at a guard changes what it counted there and what it knows drained
  abbrev pub after_look : View M C R G → View M C R G → View M C R G
  after_look v w = record v { counted = w.counted; drained = w.drained }

module _ {M C R G : Type 0} (m : Ghosts M C R G) where
  -- it owes a second entry for a call that is one, and one at most for every other call
  pub record MayCall (v : View M C R G) (call : C) : Type 0 where
    pub ends : m.ends call ≡ true → 0 < owes m v
    pub begins : m.ends call ≡ false → owes m v ≤ 1

  -- it is inside the place that the call names, and knows the place closed at whose guard the call was refused
  pub record MayName (v : View M C R G) (call : C) : Type 0 where
    pub named : (p : ℕ) → m.place_of call ≡ Some p → IsInside v p
    pub refused : (p : ℕ) → m.refused_at call ≡ Some p → KnowsClosed v p

  -- for a removal's last entry it has drained each place that it removes, in the world after what it has seen
  abbrev pub MayEndRemoval : View M C R G → C → Type 0
  MayEndRemoval v call = m.is_last_removal call ≡ true → (p : ℕ) → Removes m (fold m v.seen) v.number p → KnowsDrained v p

  -- in the world after what it has seen, it removes no place
  abbrev pub RemovesNothing : View M C R G → Type 0
  RemovesNothing v = (p : ℕ) → Removes m (fold m v.seen) v.number p → ⊥

  -- The call was made: its entry stands after all that the pass had seen and what came between, and reply and bytes are the machine's there.
  pub record Acts (v : View M C R G) (call : C) (reply : R) (old new : List ℕ) (w : View M C R G) : Type 0 where
    pub between : List (Entry M C R G)
    pub seen : w.seen ≡ (v.seen ++ between) ++ entry v.number call reply ∷ []
    pub mine : w.mine ≡ v.mine ++ entry v.number call reply ∷ []
    pub others : entries_of v.number between ≡ []
    -- the first pass has seen no entry of a number that no pass was made with
    pub strangers : NoStrangers v w.seen
    -- the world now, the reply and the bytes are the machine's
    pub world : fold m w.seen ≡ m.world_after (fold m (v.seen ++ between)) v.number call
    pub answer : reply ≡ m.reply_of (fold m (v.seen ++ between)) v.number call
    pub bytes : let bytes = m.bytes_of (fold m (v.seen ++ between)) v.number call in new ≡ bytes ++ drop (length bytes) old
    -- it owes one more where the call begins, and one less where it is a second entry
    pub owed : owes m w + cond (m.ends call) 1 0 ≡ owes m v + cond (m.begins call reply) 1 0
    -- it passed no turn on
    pub passed : w.passed ≡ v.passed
    -- there was room, where the call is no second entry
    pub room : m.ends call ≡ false → length (v.seen ++ between) < v.room
    pub legal : Legal m w.seen
    -- phases went forward; a place that it knows closed is Leaving or Gone now
    pub forward : (p : ℕ) → stage m (fold m v.seen) p ≤ stage m (fold m w.seen) p
    pub closed : (p : ℕ) → KnowsClosed v p → IsClosing (stage m (fold m w.seen) p)
    pub removals : RemovalsGoOn m v.number v.seen between call reply

  -- The history was full: it had at least `room` entries when the pass had its turn, and the call is no second entry.
  pub record Refuses (v : View M C R G) (call : C) (w : View M C R G) : Type 0 where
    pub seen : StartsWith w.seen v.seen
    pub mine : w.mine ≡ v.mine
    pub full : v.room ≤ length w.seen
    pub not_second : m.ends call ≡ false
    -- it passed one turn on
    pub passed : w.passed ≡ v.passed + 1
    pub legal : Legal m w.seen
    pub strangers : NoStrangers v w.seen
    -- what the pass removes is as it was
    pub removes : (p : ℕ) → Removes m (fold m w.seen) v.number p → Removes m (fold m v.seen) v.number p
