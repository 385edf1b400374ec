-- A talk as an actor carried it out on the device: what it printed and what it did, one turn after another. The history may have
-- entries of other actors between any two of its own. This project's choice.
use Rattle.std.specs.Prelude.{◌≡◌, ◌<◌, ◌≤◌, ℕ, Bool, true, false, is_some, List, [], ◌∷◌, ◌++◌, length, Option, Some, None}
use Rattle.gl_base.specs.declared.operation.Do.{Do}
use Rattle.gl_base.specs.declared.operation.Got.{Got}
use Rattle.gl_world.specs.Deeds.{entries_in}
use Rattle.gl_world.specs.History.{ended_in}
use Rattle.gl_client.specs.Program.{Program, done, print, ask}
use Rattle.gl_driver.specs.Told.{Told, counts_for, with_bits, with_call_counting, with_plan}
use Rattle.gl_driver.specs.declared.map.Map.{Map}
use Rattle.gl_base.specs.declared.op.Op.{Op}
use Rattle.gl_model.specs.Entries.{begins}
use Rattle.gl_model.specs.declared.device_call.DeviceCall.{DeviceCall}
use Rattle.gl_model.specs.declared.device_call.DeviceCall.TheVariants.{Once, Removing, Commanding}
use Rattle.gl_model.specs.Parts.{Makes, last_reply}
use Rattle.gl_model.specs.declared.reply.Reply.{Reply}
use Rattle.gl_model.specs.declared.reply.Reply.TheVariants.{Done, Refused}
use Rattle.gl_core.specs.Device.{MayOwn, OneDeed, OneEntry, core, last_bytes}
use Rattle.gl_asking.specs.declared.kinds.Asking.{Asking}
use Rattle.gl_asking.specs.declared.kinds.Asking.TheVariants.{Calls, Plans, Accepts, Refuses}
use Rattle.gl_asking.specs.Asking.{files_behind, got_of}
use Rattle.gl_asking.specs.Driving.{op_asked}
use Rattle.gl_asking.specs.Files.{OpenFile}
use Rattle.gl_check.specs.Drivers.{DriverKind, Gives, MayMake, map_in}
use Rattle.gl_check.specs.Joining.{Maps, asking_with, maps_behind}

-- an operation as it was carried out: whether the driver goes by a map at its place; whether the guard of its place was closed, what the driver answered
-- where it was asked, and the entries that it made of its own meanwhile; how many entries the history had room for, and how many of them the actor had
-- seen once the driver had answered; what the actor did, the own entries among it, and the last reply and what was written there
pub record Exchange : Type 0 where
  pub what : Do
  pub mapped : Bool
  pub closed : Bool
  pub answer : Option ℕ
  pub own : List OneEntry
  pub room : ℕ
  pub seen : ℕ
  pub did : List OneDeed
  pub reply : Reply
  pub wrote : List ℕ

-- who carries a talk out has its open files, and a port that may tell what went through it, and that keeps maps
pub record Carried : Type 0 where
  pub files : List OpenFile
  pub told : Option Told
  pub maps : Maps

abbrev pub carried : List OpenFile → Option Told → Maps → Carried
carried files told m = record { files = files; told = told; maps = m }

-- the first of these entries owes a second one
abbrev pub is_begun : List OneEntry → Bool
is_begun [] = false
is_begun (e ∷ es) = begins e.call e.reply

-- the driver was asked for a call that made these entries: for a command whose ask was answered Go
abbrev pub was_asked : DeviceCall → List OneEntry → Bool
was_asked (Once call) made = false
was_asked (Removing removal) made = false
was_asked (Commanding c) made = is_begun made

-- the map by which it goes then
abbrev pub map_of : DriverKind → Maps → DeviceCall → Option Map
map_of driver m (Once call) = None
map_of driver m (Removing removal) = None
map_of driver m (Commanding c) = map_in driver m c.place

module _ (driver : DriverKind) (actor : ℕ) where
  -- The driver was asked in this exchange, for just that operation. Between the ask and the tell stand the entries of its own, which are such
  -- as it may make; its answer is one that follows; and the port tells one call more, with this answer.
  pub record WasAsked (map : Option Map) (op : Option Op) (e : Exchange) (before after : Option Told) : Type 0 where
    pub asked_for : Op
    pub is_this : op ≡ Some asked_for
    pub ask : OneDeed
    pub inner : List OneDeed
    pub tell : OneDeed
    pub deeds_are : e.did ≡ ask ∷ (inner ++ tell ∷ [])
    pub inner_own : entries_in inner ≡ e.own
    pub may_make : MayMake driver map asked_for e.own
    pub gives : Gives driver map before asked_for inner e.room e.seen e.answer
    pub told_then : after ≡ with_call_counting (counts_for map (ended_in core e.own)) asked_for e.answer before

  -- what becomes of the port, by whether the driver was asked
  abbrev pub PortBy : Bool → Option Map → Option Op → Exchange → Option Told → Option Told → Type 0
  PortBy false map op e before after = after ≡ before
  PortBy true map op e before after = WasAsked map op e before after

  -- A call of the device was made, for which the driver is asked this: its deeds are parts of the call, and reply and bytes are the last one's.
  -- The entries that the driver made of its own are such as any may make.
  pub record HasMade (m : Maps) (call : DeviceCall) (op : Option Op) (e : Exchange) (before after : Option Told) : Type 0 where
    pub mapped_is : e.mapped ≡ is_some (map_of driver m call)
    pub makes : Makes actor e.closed call e.answer e.own (entries_in e.did)
    pub few_own : length e.own ≤ driver.limit
    pub may_own : MayOwn e.own
    pub reply_is : last_reply (entries_in e.did) ≡ Some e.reply
    pub bytes_are : last_bytes e.did ≡ e.wrote
    pub port : PortBy (was_asked call (entries_in e.did)) (map_of driver m call) op e before after

  -- nothing was done
  pub record DidNothing (e : Exchange) (reply : Reply) : Type 0 where
    pub did : e.did ≡ []
    pub reply_is : e.reply ≡ reply
    pub bytes_are : e.wrote ≡ []

  abbrev pub IsDone : Maps → Asking → Option Op → Exchange → Option Told → Option Told → Type 0
  IsDone m (Calls call) op e before after = HasMade m call op e before after
  IsDone m (Plans nth) op e before after = DidNothing e Done × (after ≡ with_plan nth before)
  IsDone m (Accepts bits) op e before after = DidNothing e Done × (after ≡ with_bits bits before)
  IsDone m (Refuses errno) op e before after = DidNothing e (Refused errno) × (after ≡ before)

  -- an operation was carried out
  pub record Carries (s : Carried) (e : Exchange) (r : Carried) : Type 0 where
    pub is_done : IsDone s.maps (asking_with s.maps s.files e.what) (op_asked s.files e.what) e s.told r.told
    pub files : r.files ≡ files_behind e.what e.reply s.files
    pub maps : r.maps ≡ maps_behind e.what e.reply s.files s.maps

-- a turn: a text is printed, or an operation is carried out
pub data Turn : Type 0 where
  Said : List ℕ → Turn
  Did : Exchange → Turn

-- what turns printed, and what they did
abbrev pub said_by : List Turn → List ℕ
said_by [] = []
said_by (Said text ∷ turns) = text ++ said_by turns
said_by (Did e ∷ turns) = said_by turns

abbrev pub did_by : List Turn → List OneDeed
did_by [] = []
did_by (Said text ∷ turns) = did_by turns
did_by (Did e ∷ turns) = e.did ++ did_by turns

-- Where the driver goes by a map in a turn, the history had room for so many entries, and fewer than `n` had been seen before its last one.
abbrev pub WhereMapped : Bool → ℕ → ℕ → Exchange → Type 0
WhereMapped false room n e = Unit {0}
WhereMapped true room n e = (e.room ≡ room) × (e.seen < n)

abbrev pub AreSeen : ℕ → ℕ → List Turn → Type 0
AreSeen room n [] = Unit {0}
AreSeen room n (Said text ∷ turns) = AreSeen room n turns
AreSeen room n (Did e ∷ turns) = WhereMapped e.mapped room n e × AreSeen room n turns

-- There was room for more each time, so no list of a driver's own entries ended for want of it.
abbrev pub AreWithin : ℕ → List Turn → Type 0
AreWithin room turns = AreSeen room room turns

module _ {A : Type 0} (driver : DriverKind) (actor : ℕ) where
  -- what is left of a program after a turn
  abbrev pub Takes : Program A → Carried → Turn → Program A → Carried → Type 0
  Takes p s (Said text) q r = (p ≡ print text q) × (r ≡ s)
  Takes p s (Did e) q r = (rest : Got → Program A) × (p ≡ ask e.what rest) × (q ≡ rest (got_of e.what e.reply e.wrote)) × Carries driver actor s e r

  -- and after turns, one after another
  abbrev pub Follows : Program A → Carried → List Turn → Program A → Carried → Type 0
  Follows p s [] q r = (p ≡ q) × (s ≡ r)
  Follows p s (turn ∷ turns) q r = (next : Program A) × (then : Carried) × Takes p s turn next then × Follows next then turns q r

  -- A program was carried out to its end: it printed this text and did these deeds, and gives this value.
  pub record Played (p : Program A) (s : Carried) (text : List ℕ) (did : List OneDeed) (value : A) (r : Carried) : Type 0 where
    pub turns : List Turn
    pub follows : Follows p s turns (done value) r
    pub text_is : text ≡ said_by turns
    pub did_is : did ≡ did_by turns
