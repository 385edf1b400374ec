-- Actors of a session at work together: what they make, each to its end or so far, is no more than the session costs. This project's choice.
use Rattle.std.specs.Prelude.{◌≡◌, ◌<◌, ◌≤◌, ℕ, List, [], length, Option}
use Rattle.gl_base.specs.declared.operation.Do.{Do}
use Rattle.gl_base.specs.declared.operation.Got.{Got}
use Rattle.gl_world.specs.Deeds.{deeds_of}
use Rattle.gl_world.specs.History.{entries_of}
use Rattle.gl_client.specs.Program.{Program, ask}
use Rattle.gl_driver.specs.Told.{Told}
use Rattle.gl_model.specs.declared.device_call.DeviceCall.{DeviceCall}
use Rattle.gl_script.specs.Cost.{session_cost}
use Rattle.gl_script.specs.Section.{SaidSection}
use Rattle.gl_talk.specs.Open.{Names}
use Rattle.gl_core.specs.Device.{OneEntry, core}
use Rattle.gl_session.specs.Alone.{Part}
use Rattle.gl_check.specs.Drivers.{DriverOver, start_maps}
use Rattle.gl_check.specs.Joining.{Maps, asking_with}
use Rattle.gl_check.specs.Programs.{setup_of}
use Rattle.gl_asking.specs.declared.kinds.Asking.TheVariants.{Calls}
use Rattle.gl_check.specs.Many.{actor_sections, program_of}
use Rattle.gl_check.specs.Turns.{Carried, Follows, Turn, carried, did_by}

-- `before`: what the port of each actor told at the beginning.
module _ (driver : DriverOver) (before : ℕ → Option Told) (sections : List SaidSection) (history : List OneEntry) where
  -- Actor n carried its section out so far, or to its end, over a port with these maps: its entries in the history are those of its turns.
  pub record HasComeTo (m : Maps) (n : ℕ) (turns : List Turn) (rest : Program Names) (behind : Carried) : Type 0 where
    pub follows : Follows driver.kind n (program_of sections n) (carried [] (before n) m) turns rest behind
    pub did : deeds_of core n history ≡ did_by turns

  pub record SoFar (m : Maps) (n : ℕ) : Type 0 where
    pub turns : List Turn
    pub rest : Program Names
    pub behind : Carried
    pub come : HasComeTo m n turns rest behind

  -- and its next operation is a call of the device
  pub record BeforeCall (m : Maps) (n : ℕ) : Type 0 where
    pub turns : List Turn
    pub what : Do
    pub later : Got → Program Names
    pub behind : Carried
    pub call : DeviceCall
    pub come : HasComeTo m n turns (ask what later) behind
    pub calls : asking_with behind.maps behind.files what ≡ Calls call

  -- `setup` was carried out, each actor came so far, and nobody else has an entry.
  pub record AtWork : Type 0 where
    pub setup : Part driver.kind (setup_of sections) [] (before 0) (start_maps driver)
    pub first : deeds_of core 0 history ≡ setup.did
    pub actors : (n : ℕ) → 1 ≤ n → n ≤ length (actor_sections sections) → SoFar setup.behind.maps n
    pub nobody_else : (n : ℕ) → length (actor_sections sections) < n → entries_of n history ≡ []

-- While one of the actors has a call of the device before it, the history has fewer entries than the session costs: with room for these it
-- is not full.
abbrev pub ActorsAtWorkHaveRoom : DriverOver → Type 0
ActorsAtWorkHaveRoom driver = driver.kind.limit ≤ 8 → (before : ℕ → Option Told) (sections : List SaidSection) (history : List OneEntry) (work : AtWork driver before sections history)
    → (n : ℕ) → 1 ≤ n → n ≤ length (actor_sections sections) → BeforeCall driver before sections history work.setup.behind.maps n → length history < session_cost sections
