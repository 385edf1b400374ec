-- What an actor carries out on the device makes no more entries than its statements cost. This project's choice.
use Rattle.std.specs.Prelude.{◌≡◌, ◌<◌, ◌≤◌, ℕ, ◌+◌, true, List, [], ◌++◌, length, sum_by, Option}
use Rattle.gl_base.specs.declared.operation.Do.{Do}
use Rattle.gl_base.specs.declared.operation.Got.{Got}
use Rattle.gl_client.specs.Costs.{CostsAtMost}
use Rattle.gl_client.specs.Program.{Program, ask}
use Rattle.gl_driver.specs.Told.{Told}
use Rattle.gl_model.specs.declared.device_call.DeviceCall.{DeviceCall}
use Rattle.gl_script.specs.Cost.{session_cost, statements_cost, with_own, words_cost}
use Rattle.gl_script.specs.Section.{SaidSection}
use Rattle.gl_script.specs.declared.section.SectionKind.{SectionKind}
use Rattle.gl_script.specs.declared.section.SectionKind.TheVariants.{Setup, Actor, After}
use Rattle.gl_talk.specs.Open.{Names}
use Rattle.gl_core.specs.Device.{OneDeed}
use Rattle.gl_session.specs.Alone.{Part, PlayedSession}
use Rattle.gl_check.specs.Drivers.{DriverKind, DriverOver, start_maps}
use Rattle.gl_check.specs.Joining.{Maps, asking_with}
use Rattle.gl_check.specs.Programs.{actor_of, after_of, setup_of}
use Rattle.gl_asking.specs.declared.kinds.Asking.TheVariants.{Calls}
use Rattle.gl_asking.specs.Files.{OpenFile}
use Rattle.gl_check.specs.One.{said_in_kind}
use Rattle.gl_check.specs.Turns.{Carried, Follows, Turn, carried, did_by}

-- A program costs at most n and was carried out so far, by any actor. Its entries so far, a closing for each file that is open
-- now, and what the rest costs come to n at most, with a closing for each file that was open before: each counted five times where the driver
-- makes entries of its own, eight at most for a call that costs two.
abbrev pub EntriesWithinCost : DriverKind → Type 0
EntriesWithinCost driver = driver.limit ≤ 8 → (actor n : ℕ) (program : Program Names) (s : Carried) (turns : List Turn) (rest : Program Names) (r : Carried)
    → CostsAtMost n program → Follows driver actor program s turns rest r
    → (left : ℕ) × CostsAtMost left rest × (length (did_by turns) + with_own true (length r.files + left) ≤ with_own true (n + length s.files))

-- and once where no port keeps a map, before and behind
abbrev pub EntriesWithinPlainCost : DriverKind → Type 0
EntriesWithinPlainCost driver = (actor n : ℕ) (program : Program Names) (s : Carried) (turns : List Turn) (rest : Program Names) (r : Carried)
    → CostsAtMost n program → Follows driver actor program s turns rest r → s.maps.kept ≡ [] → r.maps.kept ≡ []
    → (left : ℕ) × CostsAtMost left rest × (length (did_by turns) + length r.files + left ≤ n + length s.files)

-- Where the next operation is a call of the device, the entries so far are fewer.
abbrev pub CallsComeBelowCost : DriverKind → Type 0
CallsComeBelowCost driver = driver.limit ≤ 8 → (actor n : ℕ) (program : Program Names) (s : Carried) (turns : List Turn) (what : Do) (later : Got → Program Names) (r : Carried) (call : DeviceCall)
    → CostsAtMost n program → Follows driver actor program s turns (ask what later) r → asking_with r.maps r.files what ≡ Calls call → length (did_by turns) < with_own true (n + length s.files)

-- what the statements in the sections of a kind cost
abbrev pub cost_in_kind : SectionKind → List SaidSection → ℕ
cost_in_kind kind sections = sum_by words_cost (said_in_kind kind sections)

-- the three parts of a session cost what its statements cost, and that is within what it costs
pub record PartsCost (sections : List SaidSection) : Type 0 where
  pub setup : CostsAtMost (cost_in_kind Setup sections) (setup_of sections)
  pub actor : CostsAtMost (cost_in_kind Actor sections) (actor_of sections)
  pub last : (names : Names) → CostsAtMost (cost_in_kind After sections) (after_of sections names)
  pub whole : cost_in_kind Setup sections + cost_in_kind Actor sections + cost_in_kind After sections ≡ statements_cost sections
  pub within : statements_cost sections ≤ session_cost sections

abbrev pub SessionsCostTheirParts : Type 0
SessionsCostTheirParts = (sections : List SaidSection) → PartsCost sections

-- a session of one actor makes no more entries than it costs
abbrev pub SessionsKeepWithinCost : DriverOver → Type 0
SessionsKeepWithinCost driver = driver.kind.limit ≤ 8 → (sections : List SaidSection) (before left : Option Told) (text : List ℕ) (did : List OneDeed)
    → PlayedSession driver sections before text did left → length did ≤ session_cost sections

-- a part of a session was carried out from these open files and these maps on, up to a call of the device
pub record Stop (driver : DriverKind) (program : Program Names) (files : List OpenFile) (told : Option Told) (m : Maps) : Type 0 where
  pub turns : List Turn
  pub what : Do
  pub later : Got → Program Names
  pub behind : Carried
  pub call : DeviceCall
  pub follows : Follows driver 0 program (carried files told m) turns (ask what later) behind
  pub calls : asking_with behind.maps behind.files what ≡ Calls call

-- Before each of its calls of the device a session of one actor has made fewer entries than it costs, over a driver that makes eight of its own
-- at most for a call.
pub record CallsHaveRoom (driver : DriverOver) : Type 0 where
  pub in_setup : driver.kind.limit ≤ 8 → (sections : List SaidSection) (before : Option Told) (stop : Stop driver.kind (setup_of sections) [] before (start_maps driver))
      → length (did_by stop.turns) < session_cost sections
  pub in_actor : driver.kind.limit ≤ 8 → (sections : List SaidSection) (before : Option Told) (setup : Part driver.kind (setup_of sections) [] before (start_maps driver))
      (stop : Stop driver.kind (actor_of sections) [] setup.behind.told setup.behind.maps)
      → length (setup.did ++ did_by stop.turns) < session_cost sections
  pub in_after : driver.kind.limit ≤ 8 → (sections : List SaidSection) (before : Option Told) (setup : Part driver.kind (setup_of sections) [] before (start_maps driver))
      (actor : Part driver.kind (actor_of sections) [] setup.behind.told setup.behind.maps)
      (stop : Stop driver.kind (after_of sections setup.names) setup.behind.files actor.behind.told actor.behind.maps)
      → length (setup.did ++ (actor.did ++ did_by stop.turns)) < session_cost sections
