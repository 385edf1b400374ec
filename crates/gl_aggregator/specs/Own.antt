-- Own: the entries that a driver may make of its own which visits targets one after the other, what it answers by them, and what it asked the
-- driver behind it. They are said of the histories of any machine: a visit says how it is spelled there, and two tests say which replies
-- let it go on. All of this is this project's choice.
use Rattle.std.specs.Prelude.{◌≡◌, ◌⊎◌, ◌≤◌, ℕ, Bool, true, false, List, [], ◌∷◌, Option, Some, None}
use Rattle.gl_base.specs.declared.op.Op.{Op}
use Rattle.gl_driver.specs.Told.{Told, with_call}
use Rattle.gl_world.specs.declared.history.Entry.{Entry}
use Rattle.gl_world.specs.Deeds.{Deed, entries_in}

-- A visit of a target: the call by which it is asked, the one that tells an answer, the record of its closed guard, and what the driver
-- behind is asked in between.
pub record Visit (C : Type 0) : Type 0 where
  pub ask : C
  pub tell : Option ℕ → C
  pub refused : C
  pub op : Option Op

-- How the entries ended: behind the last target, at a refusal, at a target that can't be asked at all, or because the history was full.
pub data Ending : Type 0 where
  Whole : Ending
  AtRefusal : Ending
  Unspelled : Ending
  NoRoom : Ending

abbrev pub is_whole : Ending → Bool
is_whole Whole = true
is_whole AtRefusal = false
is_whole Unspelled = false
is_whole NoRoom = false

abbrev pub is_at_refusal : Ending → Bool
is_at_refusal Whole = false
is_at_refusal AtRefusal = true
is_at_refusal Unspelled = false
is_at_refusal NoRoom = false

abbrev pub is_unspelled : Ending → Bool
is_unspelled Whole = false
is_unspelled AtRefusal = false
is_unspelled Unspelled = true
is_unspelled NoRoom = false

abbrev pub lacks_room : Ending → Bool
lacks_room Whole = false
lacks_room AtRefusal = false
lacks_room Unspelled = false
lacks_room NoRoom = true

-- a target that was told and done leaves the rest to decide
abbrev pub if_done : Bool → Ending → Ending
if_done true later = later
if_done false later = AtRefusal

-- what is answered: what is gathered of the bytes where all targets were passed, else a failure
abbrev pub by_ending : (List (List ℕ) → ℕ) → List (List ℕ) → Ending → Option ℕ
by_ending gather told Whole = Some (gather told)
by_ending gather told AtRefusal = None
by_ending gather told Unspelled = None
by_ending gather told NoRoom = None

-- what was written at the tells, in order: each second deed is one
abbrev pub told_bytes : {M C R G : Type 0} → List (Deed M C R G) → List (List ℕ)
told_bytes [] = []
told_bytes (ask ∷ []) = []
told_bytes (ask ∷ tell ∷ later) = tell.bytes ∷ told_bytes later

module _ {M C R G : Type 0} (is_go is_done : R → Bool) where
  -- behind the tell: what comes after the target, or nothing where the tell was refused
  abbrev pub BehindTell : (List (Entry M C R G) → Type 0) → Bool → List (Entry M C R G) → Type 0
  BehindTell later false es = es ≡ []
  BehindTell later true es = later es

  -- behind the ask: after Go the tell of some answer, which is never refused for want of room; else nothing
  abbrev pub BehindAsk : Visit C → (List (Entry M C R G) → Type 0) → Bool → List (Entry M C R G) → Type 0
  BehindAsk v later false es = es ≡ []
  BehindAsk v later true [] = ⊥
  BehindAsk v later true (e ∷ es) = (answer : Option ℕ) × (e.call ≡ v.tell answer) × BehindTell later (is_done e.reply) es

  -- one target: no entry where the history was full; the record of its closed guard; or its ask, and what stands behind that
  abbrev pub OfVisit : Visit C → (List (Entry M C R G) → Type 0) → List (Entry M C R G) → Type 0
  OfVisit v later [] = Unit {0}
  OfVisit v later (e ∷ es) = ((e.call ≡ v.refused) × (es ≡ [])) ⊎ ((e.call ≡ v.ask) × BehindAsk v later (is_go e.reply) es)

  -- The targets come in order, and the entries of each stand whole before those of the next. The first refusal ends the list, and so does a
  -- target that can't be asked.
  abbrev pub Own : List (Option (Visit C)) → List (Entry M C R G) → Type 0
  Own [] es = es ≡ []
  Own (None ∷ vs) es = es ≡ []
  Own (Some v ∷ vs) es = OfVisit v (Own vs) es

  -- how it ended; each target that was passed has two entries
  abbrev pub ending : List (Option (Visit C)) → List (Entry M C R G) → Ending
  ending [] es = Whole
  ending (None ∷ vs) es = Unspelled
  ending (Some v ∷ vs) [] = NoRoom
  ending (Some v ∷ vs) (e ∷ []) = AtRefusal
  ending (Some v ∷ vs) (e ∷ f ∷ es) = if_done (is_done f.reply) (ending vs es)

  -- what is answered by what was done
  abbrev pub answer_by : (List (List ℕ) → ℕ) → List (Option (Visit C)) → List (Deed M C R G) → Option ℕ
  answer_by gather vs did = by_ending gather (told_bytes did) (ending vs (entries_in did))

  -- The answer is what is gathered where all targets were passed, and else a failure; and where the history was full, the pass has seen at least
  -- as many entries as there is room for.
  pub record Gathers (gather : List (List ℕ) → ℕ) (vs : List (Option (Visit C))) (did : List (Deed M C R G)) (room seen : ℕ) (answer : Option ℕ) : Type 0 where
    pub answer_is : answer ≡ answer_by gather vs did
    pub full : lacks_room (ending vs (entries_in did)) ≡ true → room ≤ seen

-- The driver behind was asked once for each tell, in order, just what the visit says, and the tell holds the answer, which is one that
-- follows by what the port told then. `before` and `after` are what that port told.
module _ {M C R G : Type 0} (Follows : Option Told → Op → Option ℕ → Type 0) where
  abbrev pub AskedFor : Option Told → List (Option (Visit C)) → List (Entry M C R G) → Option Told → Type 0
  AskedFor before [] es after = after ≡ before
  AskedFor before (None ∷ vs) es after = after ≡ before
  AskedFor before (Some v ∷ vs) [] after = after ≡ before
  AskedFor before (Some v ∷ vs) (e ∷ []) after = after ≡ before
  AskedFor before (Some v ∷ vs) (e ∷ f ∷ es) after =
      (op : Op) × (answer : Option ℕ) × (v.op ≡ Some op) × (f.call ≡ v.tell answer) × Follows before op answer × AskedFor (with_call op answer before) vs es after
