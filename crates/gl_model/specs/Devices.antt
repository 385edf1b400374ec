-- The devices of the tree: how the state of a device and the phases of its chips agree. The states are those of the kernel's
-- document on gpio-sim, with Leaving for a removal that goes on; this is the project's choice.
use Rattle.std.specs.Prelude.{◌≡◌, ℕ, true, List}
use Rattle.gl_simtree.specs.Calls.{is_leaving, is_live}
use Rattle.gl_simtree.specs.Rows.{state_of}
use Rattle.gl_simtree.specs.declared.row.State.TheVariants.{Off}
use Rattle.gl_world.specs.declared.history.Entry.{Entry}
use Rattle.gl_model.specs.declared.call.Call.{Call}
use Rattle.gl_model.specs.declared.call.Call.TheVariants.{Remove}
use Rattle.gl_model.specs.declared.gift.Gift.{Gift}
use Rattle.gl_model.specs.declared.reply.Reply.{Reply}
use Rattle.gl_model.specs.declared.reply.Reply.TheVariants.{Done}
use Rattle.gl_model.specs.Machine.{IsLegal, world_of}
use Rattle.gl_model.specs.Removal.{is_up_of}
use Rattle.gl_model.specs.Sound.{is_leaving_of}
use Rattle.gl_model.specs.Step.{step}
use Rattle.gl_model.specs.World.{World}

-- some chip of a device is up
abbrev pub HasUp : List ℕ → World → Type 0
HasUp device w = (place : ℕ) × (is_up_of device w place ≡ true)

-- some chip of a device is leaving
abbrev pub HasLeaving : List ℕ → World → Type 0
HasLeaving device w = (place : ℕ) × (is_leaving_of device w place ≡ true)

-- The state of a device agrees with its chips: it is live exactly where one of them is up, and leaving exactly where one of them
-- is leaving. So it is off exactly where none is up or leaving.
pub record StateAgrees (device : List ℕ) (w : World) : Type 0 where
  pub live_has_up : is_live (state_of device w.tree) ≡ true → HasUp device w
  pub up_is_live : HasUp device w → is_live (state_of device w.tree) ≡ true
  pub leaving_has_chip : is_leaving (state_of device w.tree) ≡ true → HasLeaving device w
  pub chip_is_leaving : HasLeaving device w → is_leaving (state_of device w.tree) ≡ true

module _ {K : Type 0} (stands_for : K → World → Type 0) where
  -- In each world that a legal history leads to, the state of each device agrees with its chips. The last call of a device's
  -- removal that is answered Done leaves the device off.
  pub record DevicesAgree : Type 0 where
    pub agree : (history : List (Entry K Call Reply Gift)) → IsLegal stands_for history → (device : List ℕ) → StateAgrees device (world_of stands_for history)
    pub ends_off : (w : World) (actor : ℕ) (device : List ℕ) → let out = step w actor (Remove device true) in out.reply ≡ Done → state_of device out.world.tree ≡ Off
