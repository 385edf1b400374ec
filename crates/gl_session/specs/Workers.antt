-- Actors that carry out their sections each by itself: before their work, after it, and once they were taken in. This project's choice.
use Rattle.std.specs.Prelude.{◌≡◌, ◌⊎◌, ℕ, ◌+◌, ◌<◌, ◌≤◌, Bool, true, false, is_some, List, [], ◌∷◌, length, map, slice_get, Option, None, Some, Result, Ok, Err, IfOk}
use Rattle.std.specs.List.{Contains}
use mathlib.Core.Option.{some}
use lib.ListN.{get_elem?}
use Rattle.gl_base.specs.Rows.{Each}
use Rattle.gl_base.specs.declared.errno.Errno.{Errno}
use Rattle.gl_base.specs.declared.errno.Errno.TheVariants.{NoMemory}
use Rattle.gl_base.specs.declared.operation.Do.{Do}
use Rattle.gl_base.specs.declared.operation.Got.{Got}
use Rattle.gl_world.specs.Deeds.{deeds_of}
use Rattle.gl_world.specs.History.{Legal, StartsWith, entries_of}
use Rattle.gl_gate.specs.Calls.{HasAllOf, HasItsOwn}
use Rattle.gl_gate.specs.Values.{GateValue}
use Rattle.gl_client.specs.Program.{Program, ask, done}
use Rattle.gl_driver.specs.Told.{Told}
use Rattle.gl_driver.specs.declared.map.Map.{Map}
use Rattle.gl_script.specs.Section.{SaidSection}
use Rattle.gl_talk.specs.Open.{Names}
use Rattle.gl_chip.specs.Values.{ActorValue, IsActorOf, OneView}
use Rattle.gl_core.specs.Device.{OneEntry, core}
use Rattle.gl_check.specs.Drivers.{DriverKind, DriverOver, start_maps}
use Rattle.gl_check.specs.Joining.{Maps, asking_with}
use Rattle.gl_check.specs.Programs.{after_of, setup_of}
use Rattle.gl_asking.specs.Files.{OpenFile}
use Rattle.gl_check.specs.Many.{Texts, actor_sections, program_of}
use Rattle.gl_session.specs.Performed.{IsCall, PlaysOn}
use Rattle.gl_check.specs.Turns.{AreSeen, Carried, Follows, Played, Turn, carried, did_by}
use Rattle.gl_session.specs.Ports.{maps_of, told_by}

-- A whole program was carried out by an actor without open files: its text, and what it left.
pub record PlaysWhole (driver : DriverKind) (program : Program Names) (m : Maps) (v : OneView) (before : Option Told) (text : List ℕ) (w : OneView) (left : Option Told) : Type 0 where
  pub names : Names
  pub files : List OpenFile
  pub maps_then : Maps
  pub plays : PlaysOn driver program v (carried [] before m) [] (done names) w (carried files left maps_then) text

-- what the port of actor n tells, of ports by the numbers of their actors; nothing where there is none
abbrev pub told_found : {P : Type 0} → (P → Option Told) → Option (Option P) → Option Told
told_found told None = None
told_found told (Some port) = told_by told port

abbrev pub told_at : {P : Type 0} → (P → Option Told) → List (Option P) → ℕ → Option Told
told_at told ports n = told_found told (slice_get ports n)

-- the ports of all actors have these maps
abbrev pub HaveMaps : {P : Type 0} → (P → List Map) → (P → ℕ) → Maps → List (ActorValue P) → Type 0
HaveMaps {P} kept left m actors = Each (λ (a : ActorValue P). maps_of kept left a.port ≡ m) actors

-- the port of an actor that has carried its section out has these maps; nothing is said of one that has no text
abbrev pub StillHas : {P : Type 0} → (P → List Map) → (P → ℕ) → Maps → ActorValue P × Result (List ℕ) Errno → Type 0
StillHas kept left m d = IfOk d.1 (λ text. maps_of kept left d.0.port ≡ m)

-- the port of actor n is there
abbrev pub is_found : {P : Type 0} → Option (Option P) → Bool
is_found None = false
is_found (Some port) = is_some port

abbrev pub there_at : {P : Type 0} → List (Option P) → ℕ → Bool
there_at ports n = is_found (slice_get ports n)

-- What an actor's program came to over a port with these maps, by a history that the actor has seen.
module _ (driver : DriverKind) (m : Maps) (n : ℕ) (program : Program Names) (before : Option Told) (saw : List OneEntry) where
  -- it was carried out to the end
  pub record CameToEnd (room : ℕ) (text : List ℕ) (left : Option Told) : Type 0 where
    pub names : Names
    pub files : List OpenFile
    pub maps_then : Maps
    pub played : Played driver n program (carried [] before m) text (deeds_of core n saw) names (carried files left maps_then)
    pub seen : AreSeen room (length saw) played.turns

  -- It was carried out up to a call of the device, and the history had no room for that.
  pub record CameToFull (room : ℕ) : Type 0 where
    pub turns : List Turn
    pub what : Do
    pub later : Got → Program Names
    pub behind : Carried
    pub follows : Follows driver n program (carried [] before m) turns (ask what later) behind
    pub did : deeds_of core n saw ≡ did_by turns
    pub calls : IsCall (asking_with behind.maps behind.files what)
    pub full : room ≤ length saw

  -- its text, or an error: then the history was full
  abbrev pub CameOut : ℕ → Result (List ℕ) Errno → Option Told → Type 0
  CameOut room (Ok text) left = CameToEnd room text left
  CameOut room (Err errno) left = CameToFull room

-- `told`: what a port tells. `start`: what the port of each actor tells at the beginning.
module _ {P : Type 0} (told : P → Option Told) (start : ℕ → Option Told) (gate : GateValue) where
  -- an actor with this number that has done nothing, made by the first actor, whose pass knew v
  pub record IsFresh (v : OneView) (n : ℕ) (a : ActorValue P) : Type 0 where
    pub of : IsActorOf gate a
    pub number : a.pass.view.number ≡ n
    pub room_is : a.pass.view.room ≡ v.room
    pub seen_is : a.pass.view.seen ≡ v.seen
    pub nothing : a.pass.view.mine ≡ []
    pub none_joined : a.pass.view.joined ≡ []
    pub own : HasItsOwn a.pass.view
    pub tells : told a.port ≡ start n

  -- actors with the numbers from n on
  abbrev pub AreFresh : OneView → ℕ → List (ActorValue P) → Type 0
  AreFresh v n [] = Unit {0}
  AreFresh v n (a ∷ actors) = IsFresh v n a × AreFresh v (n + 1) actors

  module _ (driver : DriverKind) (m : Maps) (programs : ℕ → Program Names) where
    -- A worker's promise, of its program, its own entries and its port alone: how far it came. It has seen all that the first actor had
    -- seen before, where it had no entry.
    pub record HasWorked (v : OneView) (n : ℕ) (a : ActorValue P) (text : Result (List ℕ) Errno) : Type 0 where
      pub of : IsActorOf gate a
      pub number : a.pass.view.number ≡ n
      pub own : HasItsOwn a.pass.view
      pub none_joined : a.pass.view.joined ≡ []
      pub nothing_before : entries_of n v.seen ≡ []
      pub begins : StartsWith a.pass.view.seen v.seen
      pub came : CameOut driver m n (programs n) (start n) a.pass.view.seen v.room text (told a.port)

    -- what a worker gives back: its promise, unless it was out of memory
    abbrev pub WorkDone : OneView → ℕ → ActorValue P × Result (List ℕ) Errno → Type 0
    WorkDone v n (a, text) = (text ≡ Err NoMemory) ⊎ HasWorked v n a text

    abbrev pub AreDone : OneView → ℕ → List (ActorValue P × Result (List ℕ) Errno) → Type 0
    AreDone v n [] = Unit {0}
    AreDone v n (d ∷ done_ones) = WorkDone v n d × AreDone v (n + 1) done_ones

module _ (driver : DriverKind) (m : Maps) (programs : ℕ → Program Names) (start left : ℕ → Option Told) (v : OneView) where
  -- the promise of an actor that was taken in by the first one
  pub record IsKept (first : OneView) (n : ℕ) (text : Result (List ℕ) Errno) : Type 0 where
    pub saw : List OneEntry
    pub place : ℕ
    pub mine : List OneEntry
    pub joined : get_elem? first.joined place ≡ some (record { number = n; mine = mine })
    pub begins : StartsWith first.seen saw
    pub own : entries_of n saw ≡ mine
    pub nothing_before : entries_of n v.seen ≡ []
    pub came : CameOut driver m n (programs n) (start n) saw v.room text (left n)

  -- of the actors with the numbers from n on, with their texts
  abbrev pub AreKept : OneView → ℕ → List (Result (List ℕ) Errno) → Type 0
  AreKept first n [] = Unit {0}
  AreKept first n (text ∷ texts) = IsKept first n text × AreKept first (n + 1) texts

-- the first actor made so many others
pub record HasSplit (v : OneView) (count : ℕ) (w : OneView) : Type 0 where
  pub number : w.number ≡ v.number
  pub room : w.room ≡ v.room
  pub made : w.made ≡ v.made + count
  pub joined : w.joined ≡ v.joined
  pub seen : w.seen ≡ v.seen
  pub mine : w.mine ≡ v.mine

-- the first actor took so many others in
pub record HasJoined (v : OneView) (count : ℕ) (w : OneView) : Type 0 where
  pub number : w.number ≡ v.number
  pub room : w.room ≡ v.room
  pub made : w.made ≡ v.made
  pub joined : length w.joined ≡ length v.joined + count
  pub seen : StartsWith w.seen v.seen
  pub mine : w.mine ≡ v.mine

-- The first actor made so many others, each with the port of its number, and took them in again: they carried their programs out, over ports with
-- these maps, and the ports are in their places.
pub record HasForked {P : Type 0} (told : P → Option Told) (driver : DriverKind) (m : Maps) (programs : ℕ → Program Names) (count : ℕ) (v : OneView) (ports : List (Option P)) (w : OneView) (texts : List (List ℕ)) (ports_then : List (Option P)) : Type 0 where
  pub between : OneView
  pub split : HasSplit v count between
  pub joined : HasJoined between count w
  pub kept : AreKept driver m programs (told_at told ports) (told_at told ports_then) v w 1 (map Ok texts)
  pub as_many : length texts ≡ count
  pub ports_len : length ports_then ≡ length ports
  pub others : (n : ℕ) → count < n → slice_get ports_then n ≡ slice_get ports n
  pub there : (n : ℕ) → 1 ≤ n → n ≤ count → there_at ports_then n ≡ true

-- The first actor made so many others and took them in again, and one of them had found the history full.
pub record HasForkedFull (driver : DriverKind) (m : Maps) (programs : ℕ → Program Names) (start : ℕ → Option Told) (count : ℕ) (v w : OneView) : Type 0 where
  pub between : OneView
  pub split : HasSplit v count between
  pub joined : HasJoined between count w
  pub left : ℕ → Option Told
  pub texts : List (Result (List ℕ) Errno)
  pub kept : AreKept driver m programs start left v w 1 texts
  pub as_many : length texts ≡ count
  pub errno : Errno
  pub stopped : Contains texts (Err errno)

-- The first actor has taken all others in, and no history that a device may end with fits what it knows. So it never comes to this.
pub record CannotEnd (w : OneView) : Type 0 where
  pub number : w.number ≡ 0
  pub all_joined : length w.joined + 1 ≡ w.made
  pub no_history : (history : List OneEntry) → Legal core history → StartsWith history w.seen → entries_of 0 history ≡ w.mine → HasAllOf w.joined history
      → ((n : ℕ) → w.made ≤ n → entries_of n history ≡ []) → ⊥

-- The first actor carried `setup` out, had the actors carry out their sections, each over a port with the maps of `setup`, and carried `after` out,
-- with this port of its own, which keeps these maps then.
pub record HasCarriedOut {P : Type 0} (told : P → Option Told) (driver : DriverOver) (sections : List SaidSection) (v : OneView) (before : Option Told) (ports : List (Option P)) (texts : Texts) (w : OneView) (left : Option Told) (m : Maps) (ports_then : List (Option P)) : Type 0 where
  pub names : Names
  pub waiting : Carried
  pub at_fork : OneView
  pub setup : PlaysOn driver.kind (setup_of sections) v (carried [] before (start_maps driver)) [] (done names) at_fork waiting texts.setup
  pub behind_fork : OneView
  -- the other ports as they were when they had learned the maps of `setup`: the same are there, and tell the same
  pub ports_taught : List (Option P)
  pub told_same : (n : ℕ) → told_at told ports_taught n ≡ told_at told ports n
  pub there_same : (n : ℕ) → there_at ports_taught n ≡ there_at ports n
  pub taught_len : length ports_taught ≡ length ports
  pub forked : HasForked told driver.kind waiting.maps (program_of sections) (length (actor_sections sections)) at_fork ports_taught behind_fork texts.actors ports_then
  pub own : HasItsOwn behind_fork
  pub end : Names
  pub behind : Carried
  pub last : PlaysOn driver.kind (after_of sections names) behind_fork waiting [] (done end) w behind texts.last
  pub left_is : behind.told ≡ left
  pub maps_are : m ≡ behind.maps
