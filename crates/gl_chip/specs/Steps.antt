-- Calls of the gate, as steps of one call of the device. They are the same for every machine.
use Rattle.std.specs.Prelude.{◌≡◌, ℕ, ◌<◌, ◌≤◌, Bool, true, false, cond, List, [], ◌∷◌, ◌++◌, length, drop}
use Rattle.gl_world.specs.declared.machine.Machine.{Ghosts}
use Rattle.gl_world.specs.declared.history.Entry.{Entry}
use Rattle.gl_world.specs.History.{Legal, entry, entries_of, fold}
use Rattle.gl_world.specs.Deeds.{Deed}
use Rattle.gl_rule.specs.declared.view.View.{View}
use Rattle.gl_rule.specs.Turn.{owes}
use Rattle.gl_gate.specs.Calls.{KnowsClosed, KnowsAsMuch, RemovesNothing, SamePass}
use Rattle.gl_gate.specs.Grown.{Grew}

-- the list ends with this
abbrev pub EndsWith : {A : Type 0} → List A → A → Type 0
EndsWith {A} whole last = (earlier : List A) × (whole ≡ earlier ++ last ∷ [])

module _ {M C R G : Type 0} where
  -- the deed of an entry that wrote this
  abbrev pub deed_of : ℕ → C → R → List ℕ → Deed M C R G
  deed_of actor call reply wrote = record { entry = entry actor call reply; bytes = wrote }

module _ {M C R G : Type 0} (m : Ghosts M C R G) where
  -- A call that is whole by itself: it needs no second entry and is none, and has to do with no removal.
  pub record IsWhole (call : C) : Type 0 where
    pub ends_not : m.ends call ≡ false
    pub begins_not : (reply : R) → m.begins call reply ≡ false
    pub no_last_removal : m.is_last_removal call ≡ false
    pub begins_no_removal : (reply : R) (bytes : List ℕ) → m.begun_places call reply bytes ≡ []

  -- The first call of a command: it may owe a second entry, is none itself, and has to do with no removal.
  pub record IsAsk (call : C) : Type 0 where
    pub ends_not : m.ends call ≡ false
    pub no_last_removal : m.is_last_removal call ≡ false
    pub begins_no_removal : (reply : R) (bytes : List ℕ) → m.begun_places call reply bytes ≡ []

  -- The second call of a command: it owes no further entry, and has to do with no removal.
  pub record IsTell (call : C) : Type 0 where
    pub ends_it : m.ends call ≡ true
    pub begins_not : (reply : R) → m.begins call reply ≡ false
    pub no_last_removal : m.is_last_removal call ≡ false
    pub begins_no_removal : (reply : R) (bytes : List ℕ) → m.begun_places call reply bytes ≡ []

  -- so many second entries are owed, and nothing is removed
  pub record Owes (v : View M C R G) (count : ℕ) : Type 0 where
    pub owed : owes m v ≡ count
    pub removes_nothing : RemovesNothing m v

  -- this is what the machine answers and writes after some legal history
  pub record IsAnswered (actor : ℕ) (call : C) (reply : R) (wrote : List ℕ) : Type 0 where
    pub before : List (Entry M C R G)
    pub legal_before : Legal m before
    pub reply_is : reply ≡ m.reply_of (fold m before) actor call
    pub bytes_are : wrote ≡ m.bytes_of (fold m before) actor call

  -- One call was made, and of the pass nothing else changed. Behind what was written the buffer stays.
  pub record CalledOnce (v : View M C R G) (call : C) (reply : R) (old new : List ℕ) (w : View M C R G) : Type 0 where
    pub wrote : List ℕ
    pub grew : Grew m v (deed_of v.number call reply wrote ∷ []) w
    pub last : EndsWith w.seen (entry v.number call reply)
    pub had_room : m.ends call ≡ false → length last.0 < v.room
    pub own_before : entries_of v.number last.0 ≡ v.mine
    pub bytes : new ≡ wrote ++ drop (length wrote) old
    pub same : SamePass v w
    pub legal : Legal m w.seen
    pub answered : IsAnswered v.number call reply wrote

  -- the history was full, and of the pass nothing else changed
  pub record StoodFull (v w : View M C R G) : Type 0 where
    pub grew : Grew m v [] w
    pub same : SamePass v w
    pub full : v.room ≤ length w.seen
    pub legal : Legal m w.seen

  -- A guarded call that is whole by itself: at the closed guard of its place just that was recorded by another call.
  pub record CalledGuarded (place : ℕ) (refused : C) (v : View M C R G) (call : C) (reply : R) (old new : List ℕ) (w : View M C R G) : Type 0 where
    pub closed : Bool
    pub wrote : List ℕ
    pub grew : Grew m v (deed_of v.number (cond closed refused call) reply wrote ∷ []) w
    pub last : EndsWith w.seen (entry v.number (cond closed refused call) reply)
    pub had_room : length last.0 < v.room
    pub own_before : entries_of v.number last.0 ≡ v.mine
    pub bytes : new ≡ wrote ++ drop (length wrote) old
    pub legal : Legal m w.seen
    pub answered : IsAnswered v.number (cond closed refused call) reply wrote
    pub known : KnowsClosed v place → closed ≡ true
    pub knows : closed ≡ true → KnowsClosed w place
    pub knows_as_much : KnowsAsMuch v w

  -- The history was full when the first entry of a call was to be made.
  pub record FoundNoRoom (v w : View M C R G) : Type 0 where
    pub grew : Grew m v [] w
    pub full : v.room ≤ length w.seen
    pub legal : Legal m w.seen
    pub knows_as_much : KnowsAsMuch v w
