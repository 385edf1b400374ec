-- What a session goes by of its driver. This project's choice.
use Rattle.std.specs.Prelude.{◌≡◌, ℕ, Bool, true, false, List, [], Option, Some, None, IfSome}
use Rattle.gl_base.specs.declared.op.Op.{Op}
use Rattle.gl_driver.specs.Told.{Told, planned_for}
use Rattle.gl_driver.specs.Maps.{map_for}
use Rattle.gl_driver.specs.declared.map.Map.{Map}
use Rattle.gl_core.specs.Device.{OneDeed, OneEntry}
use Rattle.gl_check.specs.Joining.{Maps, no_maps}

-- A driver as a session goes by it: how many entries of its own it makes for a call at most, and whether its answers are planned at a place
-- without a map. At a place with a map: which entries of its own it may make for an operation, and which answer follows, by what its port told
-- before, the operation, what the actor did in the call, the room of the history, and how many entries the actor had seen then.
pub record DriverKind : Type 1 where
  pub limit : ℕ
  pub is_planned : Bool
  pub Own : Map → Op → List OneEntry → Type 0
  pub Follows : Map → Option Told → Op → List OneDeed → ℕ → ℕ → Option ℕ → Type 0

module _ (driver : DriverKind) where
  -- the entries of its own that it may make: none at a place without a map
  abbrev pub MayMake : Option Map → Op → List OneEntry → Type 0
  MayMake None op own = own ≡ []
  MayMake (Some map) op own = driver.Own map op own

  -- the answer that follows: at a place without a map the planned one, where its answers are planned there
  abbrev pub Gives : Option Map → Option Told → Op → List OneDeed → ℕ → ℕ → Option ℕ → Type 0
  Gives None told op did room seen answer = driver.is_planned ≡ true → IfSome told (λ t. answer ≡ planned_for op t)
  Gives (Some map) told op did room seen answer = driver.Follows map told op did room seen answer

-- the driver of a device, by what its contract says of it
abbrev pub driver_kind : ℕ → Bool → (Option Map → Op → List OneEntry → Type 0) → (Option Map → Option Told → Op → List OneDeed → ℕ → ℕ → Option ℕ → Type 0) → DriverKind
driver_kind limit is_planned Own Follows = record {
  limit = limit;
  is_planned = is_planned;
  Own = λ map op own. Own (Some map) op own;
  Follows = λ map told op did room seen answer. Follows (Some map) told op did room seen answer;
}

-- the same driver, as far as one knows that has no word of its port
abbrev pub untold : DriverKind → DriverKind
untold driver = record {
  limit = driver.limit;
  is_planned = false;
  Own = driver.Own;
  Follows = λ map told op did room seen answer. (before : Option Told) × driver.Follows map before op did room seen answer;
}

-- and one whose answers are planned at places without a map
abbrev pub planning : DriverKind → DriverKind
planning driver = record driver { is_planned = true }

-- a driver that makes no entries of its own
abbrev pub plain : DriverKind
plain = record { limit = 0; is_planned = false; Own = λ map op own. own ≡ []; Follows = λ map told op did room seen answer. Unit {0} }

-- the map by which a driver goes at a place, over a port with these maps
abbrev pub map_in : DriverKind → Maps → ℕ → Option Map
map_in driver m place = map_for driver.limit place m.kept

-- A driver, and how many maps each of its ports takes at the beginning of a session, where it has none.
pub record DriverOver : Type 1 where
  pub kind : DriverKind
  pub maps_left : ℕ

abbrev pub over : ℕ → DriverKind → DriverOver
over left kind = record { kind = kind; maps_left = left }

-- the maps of each port then
abbrev pub start_maps : DriverOver → Maps
start_maps driver = no_maps driver.maps_left
