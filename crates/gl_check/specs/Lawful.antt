-- Which calls of a driver are such as it may make, in a session of one actor. This project's choice.
use Rattle.std.specs.Prelude.{◌≡◌, ℕ, ◌<◌, List, map, Option, None, Some}
use Rattle.gl_base.specs.Rows.{Each}
use Rattle.gl_base.specs.declared.op.Op.{Op}
use Rattle.gl_world.specs.Deeds.{entries_in}
use Rattle.gl_world.specs.History.{entry}
use Rattle.gl_core.specs.Device.{OneDeed}
use Rattle.gl_driver.specs.Told.{Told}
use Rattle.gl_driver.specs.declared.map.Map.{Map}
use Rattle.gl_check.specs.Drivers.{DriverKind, Gives, MayMake}
use Rattle.gl_check.specs.One.{DriverAsked, StepDone}
use Rattle.gl_check.specs.Seats.{is_refusal}

-- a call that was made, as a deed of the first actor
abbrev pub deed_of : StepDone → OneDeed
deed_of s = record { entry = entry 0 s.call s.reply; bytes = s.bytes }

abbrev pub deeds_of : DriverAsked → List OneDeed
deeds_of a = map deed_of a.did

-- The answer is one that follows. Where the driver goes by a map it had seen fewer entries than the history has room for: so none of its own calls
-- was left out for want of room.
abbrev pub GivesWithin : DriverKind → ℕ → Option Map → Option Told → Op → List OneDeed → Option ℕ → Type 0
GivesWithin driver room None before op did answer = Gives driver None before op did room 0 answer
GivesWithin driver room (Some map) before op did answer = (seen : ℕ) × (seen < room) × Gives driver (Some map) before op did room seen answer

-- A call of its own was refused at its guard just where that was closed.
abbrev pub IsLetInOrRefused : StepDone → Type 0
IsLetInOrRefused s = is_refusal s.call ≡ s.closed

-- It was asked for an operation. The calls that it made of its own are such as it may make, each was let in or refused at its guard, and its answer is
-- one that follows.
pub record IsLawfulCall (driver : DriverKind) (room : ℕ) (a : DriverAsked) : Type 0 where
  pub op : Op
  pub asked_for : a.op ≡ Some op
  pub may_make : MayMake driver a.map op (entries_in (deeds_of a))
  pub guards : Each IsLetInOrRefused a.did
  pub gives : GivesWithin driver room a.map a.before op (deeds_of a) a.answer
