-- How many removals there are that have begun and not ended. This is the project's choice.
use Rattle.std.specs.Prelude.{◌≡◌, ℕ, true, false, List}
use Rattle.gl_base.specs.declared.phase.Phase.TheVariants.{Leaving}
use Rattle.gl_simtree.specs.Calls.{is_leaving}
use Rattle.gl_simtree.specs.Rows.{state_of}
use Rattle.gl_world.specs.History.{entries_of}
use Rattle.gl_world.specs.Removal.{Removes}
use Rattle.gl_world.specs.declared.history.Entry.{Entry}
use Rattle.gl_model.specs.declared.call.Call.{Call}
use Rattle.gl_model.specs.declared.call.Call.TheVariants.{Remove, Unplug}
use Rattle.gl_model.specs.declared.gift.Gift.{Gift}
use Rattle.gl_model.specs.declared.reply.Reply.{Reply}
use Rattle.gl_model.specs.Calling.{AreOfCalls, AreOfCallsSoFar}
use Rattle.gl_model.specs.Chips.{phase_at}
use Rattle.gl_model.specs.Entries.{awaited_call}
use Rattle.gl_model.specs.Machine.{IsLegal, machine, world_of}
use Rattle.gl_model.specs.Refusing.{IsRefused}
use Rattle.gl_model.specs.Removal.{is_of}
use Rattle.gl_model.specs.Step.{step}
use Rattle.gl_model.specs.World.{World}

-- A removal that has begun isn't begun again: while a chip is leaving no removal of it begins, and while a device is leaving
-- none of it.
pub record BeginsOnce : Type 0 where
  pub of_a_chip : (w : World) (actor place : ℕ) → phase_at w place ≡ Leaving → IsRefused (step w actor (Unplug place false)).reply
  pub of_a_device : (w : World) (actor : ℕ) (device : List ℕ) → is_leaving (state_of device w.tree) ≡ true → IsRefused (step w actor (Remove device false)).reply

module _ {K : Type 0} (stands_for : K → World → Type 0) where
  -- an actor has no unfinished removal: there is no place whose chip it is removing
  abbrev pub HasNoRemoval : ℕ → World → Type 0
  HasNoRemoval actor w = (place : ℕ) → Removes (machine stands_for) w actor place → ⊥

  -- an actor has at most one unfinished removal: one call ends the removal of all places whose chips it is removing
  abbrev pub HasAtMostOneRemoval : ℕ → World → Type 0
  HasAtMostOneRemoval actor w = (place other : ℕ) → Removes (machine stands_for) w actor place → Removes (machine stands_for) w actor other → awaited_call w place ≡ awaited_call w other

  -- one actor is removing a device of the tree: it removes a chip of it, and no other actor removes one
  pub record IsRemovedByOne (device : List ℕ) (w : World) : Type 0 where
    pub actor : ℕ
    pub place : ℕ
    pub of_it : is_of device w place ≡ true
    pub removes : Removes (machine stands_for) w actor place
    pub no_other : (other place : ℕ) → is_of device w place ≡ true → Removes (machine stands_for) w other place → other ≡ actor

  -- Of an actor that calls the device, one call after another: while a call goes on it has at most one unfinished removal, and
  -- between its calls it has none. Of the devices of the tree: each that is leaving is being removed by one actor, so none is
  -- leaving while all actors are between their calls.
  pub record OneRemoval : Type 0 where
    pub during_a_call : (history : List (Entry K Call Reply Gift)) → IsLegal stands_for history
        → (actor : ℕ) → AreOfCallsSoFar stands_for actor (entries_of actor history) → HasAtMostOneRemoval actor (world_of stands_for history)
    pub between_calls : (history : List (Entry K Call Reply Gift)) → IsLegal stands_for history
        → (actor : ℕ) → AreOfCalls stands_for actor (entries_of actor history) → HasNoRemoval actor (world_of stands_for history)
    pub is_removed_by_one : (history : List (Entry K Call Reply Gift)) → IsLegal stands_for history
        → (device : List ℕ) → is_leaving (state_of device (world_of stands_for history).tree) ≡ true → IsRemovedByOne device (world_of stands_for history)
    pub none_is_leaving : (history : List (Entry K Call Reply Gift)) → IsLegal stands_for history
        → ((actor : ℕ) → AreOfCalls stands_for actor (entries_of actor history)) → (device : List ℕ) → is_leaving (state_of device (world_of stands_for history).tree) ≡ false
