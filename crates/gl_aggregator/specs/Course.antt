-- How far a call over targets is, target by target, and what it comes to.
use Rattle.std.specs.Prelude.{◌≡◌, ◌≤◌, ℕ, Bool, true, false, List, [], ◌∷◌, ◌++◌, length, Option, Some, None}
use Rattle.gl_base.specs.declared.op.Op.{Op}
use Rattle.gl_driver.specs.Calls.{IsBack}
use Rattle.gl_driver.specs.Told.{Told, counted_on, with_call}
use Rattle.gl_driver.specs.declared.op.DriverCall.{DriverCall}
use Rattle.gl_rule.specs.declared.view.View.{View}
use Rattle.gl_world.specs.Deeds.{Deed, entries_in}
use Rattle.gl_world.specs.History.{ended_in}
use Rattle.gl_world.specs.declared.history.Entry.{Entry}
use Rattle.gl_world.specs.declared.machine.Machine.{Ghosts}
use Rattle.gl_aggregator.specs.Own.{AskedFor, Gathers, Own, Visit, ending, is_whole, lacks_room, told_bytes}
use Rattle.gl_aggregator.specs.Ports.{told_over}

-- so many more are counted
abbrev pub with_more : ℕ → Option Told → Option Told
with_more more None = None
with_more more (Some t) = Some (record t { counted = counted_on more t.counted })

-- the port behind counts so many more, and is the same but for the calls that went through it
abbrev pub CountsMore : ℕ → Option Told → Option Told → Type 0
CountsMore more before after = (calls : ℕ) (last : Option DriverCall) → told_over calls last after ≡ with_more more (told_over calls last before)

-- which answers of the driver behind follow by at most so many entries, follow by more
abbrev pub FollowsOn : (ℕ → Option Told → Op → Option ℕ → Type 0) → Type 0
FollowsOn Follows = (seen more : ℕ) (told : Option Told) (op : Op) (answer : Option ℕ) → seen ≤ more → Follows seen told op answer → Follows more told op answer

-- Follows: which answers of the driver behind follow, by how many entries the pass has seen at most
module _ {M C R G : Type 0} (m : Ghosts M C R G) (is_go is_done : R → Bool) (Follows : ℕ → Option Told → Op → Option ℕ → Type 0) where
  -- The first targets were passed, by when the pass had seen so many entries, and these are left. What may come for those completes the whole.
  pub record SoFar (vs : List (Option (Visit C))) (before : Option Told) (did : List (Deed M C R G)) (told : List (List ℕ)) (left : List (Option (Visit C))) (now : Option Told) (seen : ℕ) : Type 0 where
    pub own : (more : List (Entry M C R G)) → Own is_go is_done left more → Own is_go is_done vs (entries_in did ++ more)
    pub ends : (more : List (Entry M C R G)) → ending is_go is_done vs (entries_in did ++ more) ≡ ending is_go is_done left more
    pub tells : (more : List (Deed M C R G)) → told_bytes (did ++ more) ≡ told ++ told_bytes more
    pub asked : (most : ℕ) → seen ≤ most → (more : List (Entry M C R G)) (after : Option Told) → AskedFor (Follows most) now left more after → AskedFor (Follows most) before vs (entries_in did ++ more) after
    pub counts : CountsMore (ended_in m (entries_in did)) before now

  -- the call ended here, before all targets were passed
  pub record Stopped (vs : List (Option (Visit C))) (did : List (Deed M C R G)) (w : View M C R G) (before after : Option Told) : Type 0 where
    pub own : Own is_go is_done vs (entries_in did)
    pub not_whole : is_whole (ending is_go is_done vs (entries_in did)) ≡ false
    pub full : lacks_room (ending is_go is_done vs (entries_in did)) ≡ true → w.room ≤ length w.seen
    pub asked : AskedFor (Follows (length w.seen)) before vs (entries_in did) after
    pub counts : CountsMore (ended_in m (entries_in did)) before after

  -- A target was passed, by when the pass had seen so many entries: its ask was answered Go, the driver behind was asked, and its tell was done, which
  -- wrote this.
  pub record Passed (v : Visit C) (did : List (Deed M C R G)) (wrote : List ℕ) (before after : Option Told) (seen : ℕ) : Type 0 where
    pub first : Deed M C R G
    pub second : Deed M C R G
    pub are : did ≡ first ∷ second ∷ []
    pub asks : first.entry.call ≡ v.ask
    pub go : is_go first.entry.reply ≡ true
    pub op : Op
    pub answer : Option ℕ
    pub op_is : v.op ≡ Some op
    pub tells : second.entry.call ≡ v.tell answer
    pub done : is_done second.entry.reply ≡ true
    pub wrote_is : second.bytes ≡ wrote
    pub follows : Follows seen before op answer
    pub after_is : after ≡ with_call op answer before
    pub one_ended : ended_in m (entries_in did) ≡ 1

  -- what one target came to: it was passed, or it stopped the call, whatever would have come after it
  abbrev pub CameTo : Visit C → List (Deed M C R G) → View M C R G → Option (List ℕ) → Option Told → Option Told → Type 0
  CameTo v did w (Some wrote) before after = Passed v did wrote before after (length w.seen)
  CameTo v did w None before after = (vs : List (Option (Visit C))) → Stopped (Some v ∷ vs) did w before after

  pub record Came (visit : Visit C) (v w : View M C R G) (wrote : Option (List ℕ)) (before after : Option Told) : Type 0 where
    pub did : List (Deed M C R G)
    pub back : IsBack m v did w
    pub comes : CameTo visit did w wrote before after

  -- The whole call: entries of which Own holds, and what is answered.
  pub record Called (gather : List (List ℕ) → ℕ) (vs : List (Option (Visit C))) (before after : Option Told) (v w : View M C R G) (answer : Option ℕ) : Type 0 where
    pub did : List (Deed M C R G)
    pub back : IsBack m v did w
    pub own : Own is_go is_done vs (entries_in did)
    pub gathers : Gathers is_go is_done gather vs did w.room (length w.seen) answer
    pub asked : AskedFor (Follows (length w.seen)) before vs (entries_in did) after
    pub counts : CountsMore (ended_in m (entries_in did)) before after
