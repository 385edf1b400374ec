-- What a session of one actor is given of its driver: over a planned driver one list, where what the driver does at a place with a map follows from
-- what it is asked. This project's choice.
use Rattle.std.specs.Prelude.{◌≡◌, ℕ, true, List, Option, Some}
use Rattle.gl_base.specs.Rows.{Each}
use Rattle.gl_base.specs.declared.op.Op.{Op}
use Rattle.gl_driver.specs.Told.{Told}
use Rattle.gl_driver.specs.declared.map.Map.{Map}
use Rattle.gl_model.specs.World.{World}
use Rattle.gl_script.specs.Section.{SaidSection}
use Rattle.gl_check.specs.Drivers.{DriverKind, DriverOver}
use Rattle.gl_check.specs.Lawful.{IsLawfulCall}
use Rattle.gl_check.specs.One.{Answering, DriverAsked, asked_over, steps_of, taken_over}

-- a call of a driver that did this where it was asked, in this world, by this map, for this operation, through a port that told this
abbrev pub asked_in : World → Option Map → Option Op → Option Told → Answering → DriverAsked
asked_in w map op before a = record { map = map; op = op; before = before; did = steps_of w a.own; answer = a.answer }

-- The driver is settled at places with a map: in one world, asked for one operation by one map, through a port that told one thing, it may lawfully do
-- one thing only. So the calls that it makes of its own are one list, and its answer is one.
abbrev pub IsSettledOnMaps : DriverKind → ℕ → Type 0
IsSettledOnMaps driver room = (w : World) (map : Map) (op : Op) (t : Told) (this other : Answering) → IsLawfulCall driver room (asked_in w (Some map) (Some op) (Some t) this)
    → IsLawfulCall driver room (asked_in w (Some map) (Some op) (Some t) other) → this ≡ other

-- A session over just this list takes all of it, through a port that told this before, and each call of the driver is lawful.
pub record IsGiven (driver : DriverOver) (room : ℕ) (sections : List SaidSection) (before : Option Told) (given : List Answering) : Type 0 where
  pub takes : taken_over driver.kind.limit driver.maps_left sections given ≡ given
  pub lawful : Each (IsLawfulCall driver.kind room) (asked_over driver.kind.limit driver.maps_left sections given before)

-- Over a planned driver that is settled, and a port that tells, there is one such list only: so the session prints one text.
abbrev pub IsGivenOneList : DriverOver → Type 0
IsGivenOneList driver = driver.kind.is_planned ≡ true → (room : ℕ) → IsSettledOnMaps driver.kind room → (sections : List SaidSection) (t : Told) (given other : List Answering)
    → IsGiven driver room sections (Some t) given → IsGiven driver room sections (Some t) other → given ≡ other
