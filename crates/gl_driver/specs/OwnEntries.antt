-- How one call of the gate inside a driver's call, or none, leaves the pass, and what the pass did then.
use Rattle.std.specs.Prelude.{◌≡◌, ℕ, false, List, [], ◌∷◌, ◌++◌}
use Rattle.gl_world.specs.declared.machine.Machine.{Ghosts}
use Rattle.gl_world.specs.History.{entry, fold}
use Rattle.gl_world.specs.Deeds.{Deed, deed_in}
use Rattle.gl_rule.specs.declared.view.View.{View}
use Rattle.gl_gate.specs.Calls.{SamePass, HasItsOwn, HoldsNoTurn, Acts, Refuses}
use Rattle.gl_driver.specs.Calls.{IsBack}

module _ {M C R G : Type 0} (m : Ghosts M C R G) where
  -- the deed of a call that was made
  abbrev pub made_deed : (v : View M C R G) (call : C) (reply : R) (old new : List ℕ) (w : View M C R G) → Acts m v call reply old new w → Deed M C R G
  made_deed v call reply old new w acts = deed_in m (fold m (v.seen ++ acts.between)) (entry v.number call reply)

  -- a call that was made, and that neither begins nor ends, is one deed of the driver's own
  abbrev pub CallIsOwn : Type 0
  CallIsOwn = (v : View M C R G) (call : C) (reply : R) (old new : List ℕ) (w : View M C R G) (acts : Acts m v call reply old new w) → SamePass v w → HoldsNoTurn w
      → m.begins call reply ≡ false → m.ends call ≡ false → IsBack m v (made_deed v call reply old new w acts ∷ []) w

  -- a call that the history had no room for is none
  abbrev pub RefusalIsNone : Type 0
  RefusalIsNone = (v : View M C R G) (call : C) (w : View M C R G) → Refuses m v call w → SamePass v w → HoldsNoTurn w → HasItsOwn v → HasItsOwn w → IsBack m v [] w

  -- and a driver that makes no call does nothing
  abbrev pub NothingIsNone : Type 0
  NothingIsNone = (v : View M C R G) → HoldsNoTurn v → IsBack m v [] v

  -- what a pass did, and then more
  abbrev pub OneAfterAnother : Type 0
  OneAfterAnother = (v w u : View M C R G) (first later : List (Deed M C R G)) → IsBack m v first w → IsBack m w later u → IsBack m v (first ++ later) u
