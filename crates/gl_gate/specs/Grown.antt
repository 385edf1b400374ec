-- How a pass grew from one moment to another: what it did between them, as data that composes.
use Rattle.std.specs.Prelude.{◌≡◌, ℕ, List, [], ◌∷◌, ◌++◌}
use Rattle.gl_world.specs.declared.machine.Machine.{Ghosts}
use Rattle.gl_world.specs.History.{StartsWith, entry, fold}
use Rattle.gl_world.specs.Deeds.{Deed, entries_in, deed_in, deeds_of}
use Rattle.gl_rule.specs.declared.view.View.{View}
use Rattle.gl_rule.specs.Turn.{owes}
use Rattle.gl_gate.specs.Calls.{SamePass, HasItsOwn, RemovesNothing, Acts, Refuses}

module _ {M C R G : Type 0} (m : Ghosts M C R G) where
  -- The same pass, which did these deeds and no others. What it has seen begins with what it had seen, and it took no pass in and made none.
  pub record Grew (v : View M C R G) (did : List (Deed M C R G)) (w : View M C R G) : Type 0 where
    pub number : w.number ≡ v.number
    pub room : w.room ≡ v.room
    pub made : w.made ≡ v.made
    pub joined : w.joined ≡ v.joined
    pub seen : StartsWith w.seen v.seen
    pub mine : w.mine ≡ v.mine ++ entries_in did
    pub deeds : deeds_of m v.number w.seen ≡ deeds_of m v.number v.seen ++ did

  -- The same pass at other places: it made no entry, and saw nothing new.
  pub record Moved (v w : View M C R G) : Type 0 where
    pub number : w.number ≡ v.number
    pub room : w.room ≡ v.room
    pub made : w.made ≡ v.made
    pub joined : w.joined ≡ v.joined
    pub seen : w.seen ≡ v.seen
    pub mine : w.mine ≡ v.mine

  -- A pass between two whole calls of a device: it is inside no place, owes no second entry, and removes nothing.
  pub record IsFree (v : View M C R G) : Type 0 where
    pub inside : v.inside ≡ []
    pub owes_nothing : owes m v ≡ 0
    pub removes_nothing : RemovesNothing m v

  -- one thing after another
  abbrev pub GrowsOn : Type 0
  GrowsOn = (v w u : View M C R G) (first later : List (Deed M C R G)) → Grew v first w → Grew w later u → Grew v (first ++ later) u

  -- who only moved did nothing
  abbrev pub MovesDoNothing : Type 0
  MovesDoNothing = (v w : View M C R G) → Moved v w → Grew v [] w

  -- a call that was made is one deed, with the machine's bytes in the world before it
  abbrev pub ActsAreDeeds : Type 0
  ActsAreDeeds = (v : View M C R G) (call : C) (reply : R) (old new : List ℕ) (w : View M C R G) (acts : Acts m v call reply old new w) → SamePass v w
      → Grew v (deed_in m (fold m (v.seen ++ acts.between)) (entry v.number call reply) ∷ []) w

  -- a call that the history had no room for is none
  abbrev pub RefusalsDoNothing : Type 0
  RefusalsDoNothing = (v : View M C R G) (call : C) (w : View M C R G) → Refuses m v call w → SamePass v w → HasItsOwn v → HasItsOwn w → Grew v [] w

  -- who grew has its own entries in what it has seen
  abbrev pub GrownHasItsOwn : Type 0
  GrownHasItsOwn = (v w : View M C R G) (deeds : List (Deed M C R G)) → HasItsOwn v → Grew v deeds w → HasItsOwn w

  -- a call that begins no removal leaves a pass that removes nothing so
  abbrev pub StillRemovesNothing : Type 0
  StillRemovesNothing = (v : View M C R G) (call : C) (reply : R) (old new : List ℕ) (w : View M C R G) → Acts m v call reply old new w → SamePass v w
      → ((bytes : List ℕ) → m.begun_places call reply bytes ≡ []) → RemovesNothing m v → RemovesNothing m w
