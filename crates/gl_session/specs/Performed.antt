-- One operation of a talk, carried out on the device; and a program in the midst of being carried out.
use Rattle.std.specs.Prelude.{◌≡◌, ◌⊎◌, ◌<◌, ℕ, Bool, is_some, List, ◌++◌, length, Option, Result, Ok, Err}
use Rattle.gl_base.specs.declared.errno.Errno.{Errno}
use Rattle.gl_base.specs.declared.errno.Errno.TheVariants.{Full, NoMemory}
use Rattle.gl_base.specs.declared.operation.Do.{Do}
use Rattle.gl_base.specs.declared.operation.Got.{Got}
use Rattle.gl_driver.specs.Told.{Told}
use Rattle.gl_gate.specs.Grown.{Grew}
use Rattle.gl_model.specs.declared.device_call.DeviceCall.{DeviceCall}
use Rattle.gl_model.specs.declared.reply.Reply.{Reply}
use Rattle.gl_world.specs.Deeds.{entries_in}
use Rattle.gl_client.specs.Program.{Program, ask}
use Rattle.gl_chip.specs.Called.{HasCalled}
use Rattle.gl_chip.specs.Orders.{op_ordered}
use Rattle.gl_chip.specs.Steps.{FoundNoRoom}
use Rattle.gl_chip.specs.Values.{OneView}
use Rattle.gl_core.specs.Device.{OneDeed, OneEntry, core}
use Rattle.gl_asking.specs.declared.kinds.Asking.{Asking}
use Rattle.gl_asking.specs.declared.kinds.FileKind.{FileKind}
use Rattle.gl_asking.specs.declared.kinds.Asking.TheVariants.{Calls, Plans, Accepts, Refuses}
use Rattle.gl_asking.specs.Asking.{got_of}
use Rattle.gl_check.specs.Drivers.{DriverKind}
use Rattle.gl_check.specs.Joining.{Maps, asking_with}
use Rattle.gl_check.specs.Turns.{AreSeen, Carried, Carries, Exchange, Follows, PortBy, Turn, WhereMapped, did_by, map_of, said_by, was_asked}

-- An operation was carried out by the actor whose pass knew v and knows w then: it got this, and did just the deeds of the exchange.
pub record HasPerformed (driver : DriverKind) (what : Do) (v : OneView) (s : Carried) (got : Got) (w : OneView) (r : Carried) : Type 0 where
  pub exchange : Exchange
  pub what_is : exchange.what ≡ what
  pub got_is : got ≡ got_of what exchange.reply exchange.wrote
  pub carries : Carries driver v.number s exchange r
  pub seen : WhereMapped exchange.mapped v.room (length w.seen) exchange
  pub grew : Grew core v exchange.did w

-- an operation as it was carried out
abbrev pub exchange : Do → Bool → Bool → Option ℕ → List OneEntry → ℕ → ℕ → List OneDeed → Reply → List ℕ → Exchange
exchange what mapped closed answer own room seen did reply wrote =
    record { what = what; mapped = mapped; closed = closed; answer = answer; own = own; room = room; seen = seen; did = did; reply = reply; wrote = wrote }

-- A call of the device was made on a file of this kind, over this driver and a port with these maps, whatever the operation was for: what the
-- actor did, how many entries it had seen before the last of its own, and what became of the port.
pub record MadeFor (driver : DriverKind) (m : Maps) (call : DeviceCall) (on : FileKind) (v : OneView) (reply : Reply) (bytes : List ℕ) (w : OneView) (before after : Option Told) : Type 0 where
  pub called : HasCalled driver.limit v call reply bytes w
  pub saw : ℕ
  pub fewer : saw < length w.seen
  pub port : (what : Do) → PortBy driver v.number (was_asked call (entries_in called.did)) (map_of driver m call) (op_ordered call on)
      (exchange what (is_some (map_of driver m call)) called.closed called.answer called.own v.room saw called.did reply bytes) before after

-- the operation is a call of the device
abbrev pub IsCall : Asking → Type 0
IsCall (Calls call) = Unit {0}
IsCall (Plans nth) = ⊥
IsCall (Accepts bits) = ⊥
IsCall (Refuses errno) = ⊥

-- the history was full when a call was to be made
abbrev pub MetFull : Do → OneView → Carried → OneView → Type 0
MetFull what v s w = IsCall (asking_with s.maps s.files what) × FoundNoRoom core v w

-- How an operation comes out: it was carried out; or memory was wanted, or the history was full, and then it has no result.
abbrev pub Performs : DriverKind → Do → Result Got Errno → OneView → Carried → OneView → Carried → Type 0
Performs driver what (Ok got) v s w r = HasPerformed driver what v s got w r
Performs driver what (Err errno) v s w r = (errno ≡ NoMemory) ⊎ ((errno ≡ Full) × MetFull what v s w)

-- A program was carried out so far: what it printed and what it did, and what is left of it.
pub record PlaysOn {A : Type 0} (driver : DriverKind) (p : Program A) (v : OneView) (s : Carried) (before : List ℕ) (q : Program A) (w : OneView) (r : Carried) (text : List ℕ) : Type 0 where
  pub turns : List Turn
  pub follows : Follows driver v.number p s turns q r
  pub text_is : text ≡ before ++ said_by turns
  pub seen : AreSeen v.room (length w.seen) turns
  pub grew : Grew core v (did_by turns) w

-- It was carried out until the history was full.
pub record StoppedFull {A : Type 0} (driver : DriverKind) (p : Program A) (v : OneView) (s : Carried) (w : OneView) : Type 0 where
  pub turns : List Turn
  pub what : Do
  pub rest : Got → Program A
  pub then : Carried
  pub view : OneView
  pub follows : Follows driver v.number p s turns (ask what rest) then
  pub grew : Grew core v (did_by turns) view
  pub full : MetFull what view then w
