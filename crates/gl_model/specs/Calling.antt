-- Actors that call the device (the layer over the gate, and no device of the tree), one call after another: which entries a history then has of an actor. This is the
-- project's choice.
use Rattle.std.specs.Prelude.{◌≡◌, ℕ, Bool, false, List, [], ◌∷◌, ◌++◌, Option}
use Rattle.gl_base.specs.Rows.{Each}
use Rattle.gl_world.specs.Removal.{AllQuiet}
use Rattle.gl_world.specs.declared.history.Entry.{Entry}
use Rattle.gl_model.specs.declared.call.Call.{Call}
use Rattle.gl_model.specs.declared.gift.Gift.{Gift}
use Rattle.gl_model.specs.declared.reply.Reply.{Reply}
use Rattle.gl_model.specs.Machine.{machine}
use Rattle.gl_model.specs.declared.device_call.DeviceCall.{DeviceCall}
use Rattle.gl_model.specs.Parts.{Makes}
use Rattle.gl_model.specs.Entries.{is_get_line_call}
use Rattle.gl_model.specs.World.{World}

-- A call of the device as an actor made it: whether the guard was closed, what the driver answered, the entries that the
-- driver made for it, and all entries that the call made.
pub record Called (K : Type 0) : Type 0 where
  pub closed : Bool
  pub call : DeviceCall
  pub answer : Option ℕ
  pub own : List (Entry K Call Reply Gift)
  pub made : List (Entry K Call Reply Gift)

-- the entries of some calls, one after another
abbrev pub made_by : {K : Type 0} → List (Called K) → List (Entry K Call Reply Gift)
made_by [] = []
made_by (called ∷ later) = called.made ++ made_by later

module _ {K : Type 0} (stands_for : K → World → Type 0) where
  -- the entries are those that such a call makes, and those of the driver have nothing to do with removals and request no
  -- lines
  pub record IsCalled (actor : ℕ) (called : Called K) : Type 0 where
    pub makes : Makes actor called.closed called.call called.answer called.own called.made
    pub quiet : AllQuiet (machine stands_for) called.own
    pub no_claims : Each (λ e. is_get_line_call e.call ≡ false) called.own

  -- the entries are those of whole calls of the device, one after another
  pub record AreOfCalls (actor : ℕ) (entries : List (Entry K Call Reply Gift)) : Type 0 where
    pub calls : List (Called K)
    pub each : Each (IsCalled actor) calls
    pub are : entries ≡ made_by calls

  -- the same with some entries to come: those that the last call has to make yet, and maybe those of further calls
  pub record AreOfCallsSoFar (actor : ℕ) (entries : List (Entry K Call Reply Gift)) : Type 0 where
    pub to_come : List (Entry K Call Reply Gift)
    pub whole : AreOfCalls actor (entries ++ to_come)
