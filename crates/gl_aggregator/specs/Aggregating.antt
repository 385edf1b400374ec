-- An aggregator as a driver: which entries of its own it may make, which answer follows, and what it did in one call.
use Rattle.std.specs.Prelude.{◌≡◌, ◌↔◌, ◌≤◌, ℕ, true, suc, List, [], ◌∷◌, length, Option, Some, None, IfSome}
use Rattle.gl_base.specs.declared.op.Op.{Op}
use Rattle.gl_driver.specs.Calls.{IsBack}
use Rattle.gl_driver.specs.Told.{Told, counted_on, with_call}
use Rattle.gl_driver.specs.declared.map.Map.{Map}
use Rattle.gl_gate.specs.Grown.{Grew}
use Rattle.gl_model.specs.Entries.{is_done, is_go}
use Rattle.gl_model.specs.declared.call.Call.{Call}
use Rattle.gl_model.specs.declared.gift.Gift.{Gift}
use Rattle.gl_model.specs.declared.reply.Reply.{Reply}
use Rattle.gl_rule.specs.declared.view.View.{View}
use Rattle.gl_world.specs.Deeds.{Deed, entries_in}
use Rattle.gl_world.specs.declared.history.Entry.{Entry}
use Rattle.gl_world.specs.declared.machine.Machine.{Ghosts}
use Rattle.gl_aggregator.specs.Commands.{visits}
use Rattle.gl_aggregator.specs.Gather.{gather}
use Rattle.gl_aggregator.specs.Own.{AskedFor, AtRefusal, Ending, Gathers, NoRoom, Own, Unspelled, Visit, Whole, answer_by, ending, lacks_room, told_bytes}
use Rattle.gl_aggregator.specs.Ports.{SameBehind}

-- K: what is kept of a world; the machine's calls are those of `gl_model`
module _ {K : Type 0} where
  -- the entries of its own: none at a place without a map, and Own of the visits at one with a map
  abbrev pub OwnAt : Option Map → Op → List (Entry K Call Reply Gift) → Type 0
  OwnAt None op own = own ≡ []
  OwnAt (Some map) op own = Own is_go is_done (visits map op) own

  module _ (Follows : Option Told → Op → List (Deed K Call Reply Gift) → ℕ → ℕ → Option ℕ → Type 0) where
    -- an answer of the driver behind follows, by the entries that the pass had seen then, which are so many at most
    abbrev pub FollowsBehind : ℕ → ℕ → Option Told → Op → Option ℕ → Type 0
    FollowsBehind room most told op answer = (seen : ℕ) × (seen ≤ most) × Follows told op [] room seen answer

    -- the driver behind was asked for each tell, through a port that told this but for the calls that went through it
    abbrev pub AsksBehind : Map → Option Told → Op → List (Deed K Call Reply Gift) → ℕ → ℕ → Type 0
    AsksBehind map told op did room most = (inner : Option Told) × (after : Option Told) × SameBehind inner told × AskedFor (FollowsBehind room most) inner (visits map op) (entries_in did) after

    -- The answer that follows: at a place without a map the one that follows of the driver behind; at one with a map what is gathered, or the
    -- failure, where the driver behind was asked for each tell.
    abbrev pub FollowsAt : Option Map → Option Told → Op → List (Deed K Call Reply Gift) → ℕ → ℕ → Option ℕ → Type 0
    FollowsAt None told op did room seen answer = (inner : Option Told) × SameBehind inner told × Follows inner op did room seen answer
    FollowsAt (Some map) told op did room seen answer =
        Gathers is_go is_done (gather map op) (visits map op) did room seen answer × AsksBehind map told op did room seen

-- how many tells stand in a call's own entries: each second one is one
abbrev pub tells_among : {M C R G : Type 0} → List (Entry M C R G) → ℕ
tells_among [] = 0
tells_among (ask ∷ []) = 0
tells_among (ask ∷ tell ∷ later) = suc (tells_among later)

-- the last tell, with its visit
abbrev pub last_tell : {M C R G : Type 0} → Option (Visit C × Entry M C R G) → List (Option (Visit C)) → List (Entry M C R G) → Option (Visit C × Entry M C R G)
last_tell last [] es = last
last_tell last (None ∷ vs) es = last
last_tell last (Some v ∷ vs) [] = last
last_tell last (Some v ∷ vs) (ask ∷ []) = last
last_tell last (Some v ∷ vs) (ask ∷ tell ∷ es) = last_tell (Some (v, tell)) vs es

-- where the port told before, it tells so many calls more
abbrev pub TellsMore : ℕ → Option Told → Option Told → Type 0
TellsMore more None after = after ≡ None
TellsMore more (Some before) after = (t : Told) × (after ≡ Some t) × (t.calls ≡ counted_on more before.calls)

-- where there is a tell, the port tells its operation and its answer as the last call
abbrev pub TellsLast : {M C R G : Type 0} → Option (Visit C × Entry M C R G) → Option Told → Type 0
TellsLast None after = Unit {0}
TellsLast (Some (v, tell)) after =
    (op : Op) × (answer : Option ℕ) × (v.op ≡ Some op) × (tell.call ≡ v.tell answer) × IfSome after (λ t. t.last ≡ Some (record { op = op; answer = answer }))

-- Why an aggregator fails: one of its entries was refused; a target would need more attributes than there is room for; or the history was full, and
-- then the pass has seen at least as many entries as there is room for.
abbrev pub Fails : Ending → ℕ → ℕ → Type 0
Fails Whole room seen = ⊥
Fails AtRefusal room seen = Unit {0}
Fails Unspelled room seen = Unit {0}
Fails NoRoom room seen = room ≤ seen

-- so it fails in just these cases, whichever driver is behind it, as its answer follows
abbrev pub FailsInJustTheseCases : {K : Type 0} → (Option Told → Op → List (Deed K Call Reply Gift) → ℕ → ℕ → Option ℕ → Type 0) → Type 0
FailsInJustTheseCases {K} Follows = (map : Map) (told : Option Told) (op : Op) (did : List (Deed K Call Reply Gift)) (room seen : ℕ) (answer : Option ℕ)
    → FollowsAt Follows (Some map) told op did room seen answer → (answer ≡ None) ↔ Fails (ending is_go is_done (visits map op) (entries_in did)) room seen

-- What follows by the entries that a pass had seen follows by all that stand before the tell of its call, of whichever actors they are.
abbrev pub FollowsByMore : {K : Type 0} → (Option Told → Op → List (Deed K Call Reply Gift) → ℕ → ℕ → Option ℕ → Type 0) → Type 0
FollowsByMore {K} Follows = (map : Map) (told : Option Told) (op : Op) (did : List (Deed K Call Reply Gift)) (room seen before : ℕ) (answer : Option ℕ)
    → FollowsAt Follows (Some map) told op did room seen answer → seen ≤ before → FollowsAt Follows (Some map) told op did room before answer

-- So where its entries ended because the history was full, at least as many as there is room for stand there.
abbrev pub FullStandsBefore : {K : Type 0} → (Option Told → Op → List (Deed K Call Reply Gift) → ℕ → ℕ → Option ℕ → Type 0) → Type 0
FullStandsBefore {K} Follows = (map : Map) (told : Option Told) (op : Op) (did : List (Deed K Call Reply Gift)) (room seen before : ℕ) (answer : Option ℕ)
    → FollowsAt Follows (Some map) told op did room seen answer → seen ≤ before → lacks_room (ending is_go is_done (visits map op) (entries_in did)) ≡ true → room ≤ before

-- where it doesn't fail, each target was told, so that what is gathered has the bytes of each
abbrev pub EachTargetIsTold : {K : Type 0} → (Option Told → Op → List (Deed K Call Reply Gift) → ℕ → ℕ → Option ℕ → Type 0) → Type 0
EachTargetIsTold {K} Follows = (map : Map) (told : Option Told) (op : Op) (did : List (Deed K Call Reply Gift)) (room seen : ℕ) (bits : ℕ)
    → OwnAt (Some map) op (entries_in did) → FollowsAt Follows (Some map) told op did room seen (Some bits) → length (told_bytes did) ≡ length (visits map op)

module _ {K : Type 0} (m : Ghosts K Call Reply Gift) (Follows : Option Told → Op → Option ℕ → Type 0) where
  -- One call at a place with a map. What the pass did in it is entries of which Own holds, each with its reply in the one history. The answer is what is gathered of
  -- them, or a failure, which comes in just the cases above. The driver behind was asked once for each tell, just what the visit says, and gave the answer that the
  -- tell holds; so the port behind, where it tells, tells as many calls more as there are tells, and the last of these as its last.
  pub record Aggregates (map : Map) (op : Op) (before after : Option Told) (v w : View K Call Reply Gift) (answer : Option ℕ) : Type 0 where
    pub did : List (Deed K Call Reply Gift)
    pub in_history : Grew m v did w
    pub own : Own is_go is_done (visits map op) (entries_in did)
    pub gathers : answer ≡ answer_by is_go is_done (gather map op) (visits map op) did
    pub fails : (answer ≡ None) ↔ Fails (ending is_go is_done (visits map op) (entries_in did)) w.room (length w.seen)
    pub asked : AskedFor Follows before (visits map op) (entries_in did) after
    pub calls : TellsMore (tells_among (entries_in did)) before after
    pub last : TellsLast (last_tell None (visits map op) (entries_in did)) after

module _ {K : Type 0} (m : Ghosts K Call Reply Gift) (Follows : Option Told → Op → List (Deed K Call Reply Gift) → ℕ → ℕ → Option ℕ → Type 0) where
  -- One call at a place without a map. The driver behind was asked once, for just this operation, and what it answered is the answer, which follows by what its
  -- port told then. No entry was made. So the port behind, where it tells, tells one call more, and this operation and its answer as its last.
  pub record PassesOn (op : Op) (before after : Option Told) (v w : View K Call Reply Gift) (answer : Option ℕ) : Type 0 where
    pub back : IsBack m v [] w
    pub follows : Follows before op [] v.room (length w.seen) answer
    pub told : after ≡ with_call op answer before
