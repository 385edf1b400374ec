-- The two halves of a visit: entering a target's place and asking there, and telling the answer and leaving. They are the same for every machine.
use Rattle.std.specs.Prelude.{◌≡◌, ◌⊎◌, ℕ, ◌+◌, ◌≤◌, Bool, true, false, List, [], ◌∷◌, ◌++◌, length, drop, Option, Some, None}
use Rattle.gl_base.specs.declared.op.Op.{Op}
use Rattle.gl_base.specs.declared.op.Op.TheVariants.{Apply, Get, Set}
use Rattle.gl_driver.specs.Calls.{Drives, FitsOp, IsBack, OwesAt}
use Rattle.gl_driver.specs.Maps.{map_for}
use Rattle.gl_driver.specs.Told.{Told}
use Rattle.gl_driver.specs.declared.map.Map.{Map}
use Rattle.gl_gate.specs.Calls.{HoldsNoTurn, IsInside, KnowsAsMuch}
use Rattle.gl_gate.specs.Grown.{Grew}
use Rattle.gl_model.specs.Fits.{FitsBytes}
use Rattle.gl_model.specs.Parts.{in_ask, in_tell}
use Rattle.gl_model.specs.Values.{bits_in}
use Rattle.gl_model.specs.declared.call.Call.{Call}
use Rattle.gl_model.specs.declared.call.Call.TheVariants.{Refused as RefusedCall}
use Rattle.gl_model.specs.declared.gift.Gift.{Gift}
use Rattle.gl_model.specs.declared.reply.Reply.{Reply}
use Rattle.gl_model.specs.Entries.{is_done, is_get_line}
use Rattle.gl_rule.specs.Sums.{without}
use Rattle.gl_rule.specs.Turn.{owes}
use Rattle.gl_rule.specs.declared.view.View.{View}
use Rattle.gl_uapi.specs.Command.{command_of}
use Rattle.gl_uapi.specs.declared.commands.Command.TheVariants.{GetValues}
use Rattle.gl_uapi.specs.declared.layout.TheConstants.{LINE_REQUEST_SIZE}
use Rattle.gl_world.specs.Deeds.{Deed}
use Rattle.gl_world.specs.History.{Legal, fold}
use Rattle.gl_world.specs.declared.history.Entry.{Entry}
use Rattle.gl_world.specs.declared.machine.Machine.{Ghosts}
use Rattle.gl_aggregator.specs.Own.{Visit}
use Rattle.gl_aggregator.specs.declared.commands.Asking.{Asking}

module _ {M C R G : Type 0} (m : Ghosts M C R G) where
  -- the call records that the guard of the place was closed, and nothing else
  pub record IsRecordOf (place : ℕ) (call : C) : Type 0 where
    pub ends_not : m.ends call ≡ false
    pub begins_not : (reply : R) → m.begins call reply ≡ false
    pub no_last_removal : m.is_last_removal call ≡ false
    pub named : (p : ℕ) → m.place_of call ≡ Some p → ⊥
    pub refused : (p : ℕ) → m.refused_at call ≡ Some p → p ≡ place

  -- the call asks at the place, and isn't a second entry
  pub record IsAskAt (place : ℕ) (call : C) : Type 0 where
    pub ends_not : m.ends call ≡ false
    pub no_last_removal : m.is_last_removal call ≡ false
    pub named : (p : ℕ) → m.place_of call ≡ Some p → p ≡ place
    pub refused : (p : ℕ) → m.refused_at call ≡ Some p → ⊥

  -- the call is the second entry of an ask at the place
  pub record IsTellAt (place : ℕ) (call : C) : Type 0 where
    pub ends_it : m.ends call ≡ true
    pub begins_not : (reply : R) → m.begins call reply ≡ false
    pub no_last_removal : m.is_last_removal call ≡ false
    pub named : (p : ℕ) → m.place_of call ≡ Some p → p ≡ place
    pub refused : (p : ℕ) → m.refused_at call ≡ Some p → ⊥

  -- the place was entered, and the ask owes its tell
  pub record WasAsked (place : ℕ) (ask : C) (v w : View M C R G) : Type 0 where
    pub first : Deed M C R G
    pub asks : first.entry.call ≡ ask
    pub begins : m.begins ask first.entry.reply ≡ true
    pub ends_not : m.ends ask ≡ false
    pub grew : Grew m v (first ∷ []) w
    pub inside : IsInside w place
    pub asked_here : OwesAt m w place
    pub back_out : without place w.inside ≡ v.inside
    pub no_turn : HoldsNoTurn w
    pub owed : owes m w ≡ owes m v + 1
    pub knows : KnowsAsMuch v w

  -- what was done where the driver isn't asked: nothing, as the history was full; the record of the closed guard; or an ask that was refused
  abbrev pub IsRefusal : C → C → ℕ → ℕ → List (Deed M C R G) → Type 0
  IsRefusal refused ask room seen [] = room ≤ seen
  IsRefusal refused ask room seen (d ∷ []) = (d.entry.call ≡ refused) ⊎ ((d.entry.call ≡ ask) × (m.begins ask d.entry.reply ≡ false))
  IsRefusal refused ask room seen (d ∷ e ∷ ds) = ⊥

  pub record WasRefused (refused ask : C) (v w : View M C R G) : Type 0 where
    pub did : List (Deed M C R G)
    pub back : IsBack m v did w
    pub is_refusal : IsRefusal refused ask w.room (length w.seen) did

  -- how the first half of a visit comes out
  abbrev pub Begins : ℕ → C → C → View M C R G → View M C R G → Bool → Type 0
  Begins place refused ask v w true = WasAsked place ask v w
  Begins place refused ask v w false = WasRefused refused ask v w

  -- the answer was told, and the place left; this was written from the start of a buffer, by the machine behind a legal history
  pub record WasTold (place : ℕ) (tell : C) (u x : View M C R G) (reply : R) (old new : List ℕ) : Type 0 where
    pub second : Deed M C R G
    pub tells : second.entry.call ≡ tell
    pub replies : second.entry.reply ≡ reply
    pub ends_it : m.ends tell ≡ true
    pub writes : new ≡ second.bytes ++ drop (length second.bytes) old
    pub before : List (Entry M C R G)
    pub legal : Legal m before
    pub reply_is : reply ≡ m.reply_of (fold m before) u.number tell
    pub bytes_are : second.bytes ≡ m.bytes_of (fold m before) u.number tell
    pub grew : Grew m u (second ∷ []) x
    pub inside : x.inside ≡ without place u.inside
    pub no_turn : HoldsNoTurn x
    pub owed : owes m x + 1 ≡ owes m u
    pub knows : KnowsAsMuch u x

-- what the code has of a visit
abbrev pub visit_in : Asking → Visit Call
visit_in asking = record {
  ask = in_ask asking.command;
  tell = λ answer. in_tell answer asking.command;
  refused = RefusedCall asking.command.place false;
  op = Some asking.op;
}

abbrev pub visit_in_some : Option Asking → Option (Visit Call)
visit_in_some None = None
visit_in_some (Some asking) = Some (visit_in asking)

-- its command has a structure with room for the values of lines, and may be made
pub record IsAsking (place : ℕ) (asking : Asking) : Type 0 where
  pub place_is : asking.command.place ≡ place
  pub bytes : FitsBytes asking.command.len asking.command.bytes
  pub no_request : is_get_line (command_of asking.command.cmd) ≡ false
  pub long : 16 ≤ asking.command.len
  pub short : asking.command.len ≤ LINE_REQUEST_SIZE
  pub op : FitsOp asking.op

-- for a Get it is GET_VALUES
abbrev pub Gets : Op → Asking → Type 0
Gets (Get lines) asking = command_of asking.command.cmd ≡ Some GetValues
Gets (Set lines mask bits) asking = Unit {0}
Gets (Apply lines settings) asking = Unit {0}

-- the word that the second half of a visit gives: nothing where the tell wasn't done, else what a GET_VALUES wrote
abbrev pub Gives : Asking → Bool → List ℕ → Option ℕ → Type 0
Gives asking done wrote None = done ≡ false
Gives asking done wrote (Some word) = (done ≡ true) × (command_of asking.command.cmd ≡ Some GetValues → word ≡ bits_in wrote)

module _ {K : Type 0} (m : Ghosts K Call Reply Gift) where
  -- how the second half of a visit comes out that tells this answer
  pub record Ends (asking : Asking) (answer : Option ℕ) (u x : View K Call Reply Gift) (word : Option ℕ) : Type 0 where
    pub reply : Reply
    pub old : List ℕ
    pub new : List ℕ
    pub told : WasTold m asking.command.place (in_tell answer asking.command) u x reply old new
    pub gives : Gives asking (is_done reply) told.second.bytes word

module _ {K : Type 0} (m : Ghosts K Call Reply Gift) (limit : ℕ) (Own : Option Map → Op → List (Entry K Call Reply Gift) → Type 0)
    (Follows : Option Map → Option Told → Op → List (Deed K Call Reply Gift) → ℕ → ℕ → Option ℕ → Type 0) (asking : Asking) (maps : List Map) (before after : Option Told) where
  -- a whole visit: its ask owed a tell, the driver behind was asked, and what that answered was told
  pub record WasVisited (v w : View K Call Reply Gift) (word : Option ℕ) : Type 0 where
    pub answer : Option ℕ
    pub asked_at : View K Call Reply Gift
    pub driven_at : View K Call Reply Gift
    pub asked : WasAsked m asking.command.place (in_ask asking.command) v asked_at
    pub drives : Drives m limit Own Follows (map_for limit asking.command.place maps) asking.op before after answer asked_at driven_at
    pub ends : Ends m asking answer driven_at w word

  -- How a visit comes out. It gives a word where the tell was done. It gives none where the tell wasn't, and where the driver behind wasn't asked, as the
  -- guard of the place was closed, the ask was refused, or the history was full.
  abbrev pub Visits : View K Call Reply Gift → View K Call Reply Gift → Option ℕ → Type 0
  Visits v w (Some word) = WasVisited v w (Some word)
  Visits v w None = ((after ≡ before) × WasRefused m (RefusedCall asking.command.place false) (in_ask asking.command) v w) ⊎ WasVisited v w None
