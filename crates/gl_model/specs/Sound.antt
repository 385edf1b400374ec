-- What is true of each world that calls lead to, as far as the phases of its chips and the states of its devices need it.
-- This is the project's choice.
use Rattle.std.specs.Prelude.{◌≡◌, ℕ, ◌+◌, ◌<◌, ◌≤◌, Bool, true, false, ◌&&◌, List, length}
use Rattle.std.specs.List.{filter}
use Rattle.gl_pins.specs.PinRange.{is_among}
use Rattle.gl_simtree.specs.Calls.{is_live, is_leaving as is_leaving_state}
use Rattle.gl_simtree.specs.Rows.{is_row_of, state_of}
use Rattle.gl_simtree.specs.declared.node.Directory.TheVariants.{Device}
use Rattle.gl_simtree.specs.declared.row.TreeRow.{TreeRow}
use Rattle.gl_model.specs.Chips.{is_leaving, phase_at}
use Rattle.gl_model.specs.Places.{origin_at}
use Rattle.gl_model.specs.Removal.{is_of, is_removing_of, is_up_of}
use Rattle.gl_model.specs.World.{World}

-- the chip of a place is of this device and is leaving
abbrev pub is_leaving_of : List ℕ → World → ℕ → Bool
is_leaving_of device w place = is_of device w place && is_leaving (phase_at w place)

-- a device has one directory at most
abbrev pub HasAtMostOneDirectory : List ℕ → List TreeRow → Type 0
HasAtMostOneDirectory device tree = length (filter (is_row_of (Device device)) tree) ≤ 1

-- what is true of a device and of its chips
pub record IsSoundFor (device : List ℕ) (w : World) : Type 0 where
  pub one_directory : HasAtMostOneDirectory device w.tree
  -- those that are up stand one after the other, from a first place on
  pub first : ℕ
  pub count : ℕ
  pub within : first + count ≤ length w.chips
  pub stand : (place : ℕ) → is_up_of device w place ≡ is_among first count place
  -- where the device is live, at least one is up
  pub live_has_up : is_live (state_of device w.tree) ≡ true → 0 < count
  -- where the device isn't live, none is up
  pub idle : is_live (state_of device w.tree) ≡ false → (place : ℕ) → is_up_of device w place ≡ false
  -- where one is leaving, the device is leaving
  pub leaving : (place : ℕ) → is_leaving_of device w place ≡ true → is_leaving_state (state_of device w.tree) ≡ true
  -- where the device is leaving, an actor is removing one of its chips
  pub leaving_has_remover : is_leaving_state (state_of device w.tree) ≡ true → (actor : ℕ) × (place : ℕ) × (is_removing_of device actor w place ≡ true)
  -- one actor removes all those that are leaving
  pub one_remover : (place other : ℕ) → is_leaving_of device w place ≡ true → is_leaving_of device w other ≡ true
      → (origin_at w place).remover ≡ (origin_at w other).remover

pub record IsSound (w : World) : Type 0 where
  -- each chip has its origin
  pub columns : length w.origins ≡ length w.chips
  pub devices : (device : List ℕ) → IsSoundFor device w
