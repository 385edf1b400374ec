-- A session of one actor as it was carried out on the device, and what follows of it: its text is One of the answers that the
-- driver gave. This project's choice.
use Rattle.std.specs.Prelude.{◌≡◌, ◌⊎◌, ℕ, ◌≤◌, Bool, true, false, ◌&&◌, if◌then◌else◌, List, [], ◌∷◌, ◌++◌, length, Option, Some}
use Rattle.gl_world.specs.Deeds.{deeds_of, entries_in}
use Rattle.gl_world.specs.History.{Legal, StartsWith, entries_of}
use Rattle.gl_rule.specs.Turn.{NoStrangers}
use Rattle.gl_rule.specs.Views.{newcomer}
use Rattle.gl_gate.specs.Grown.{Grew}
use Rattle.gl_client.specs.Program.{Program}
use Rattle.gl_driver.specs.Told.{Told}
use Rattle.gl_model.specs.Entries.{begins}
use Rattle.gl_model.specs.declared.call.Call.{Call}
use Rattle.gl_model.specs.declared.call.Call.TheVariants.{Ioctl}
use Rattle.gl_base.specs.Rows.{Each}
use Rattle.gl_script.specs.Cost.{has_aggregate, session_cost}
use Rattle.gl_script.specs.Section.{SaidSection}
use Rattle.gl_talk.specs.Open.{Names}
use Rattle.gl_core.specs.Device.{OneDeed, OneEntry, core, tells_in}
use Rattle.gl_chip.specs.Values.{OneView}
use Rattle.gl_check.specs.Drivers.{DriverKind, DriverOver, start_maps}
use Rattle.gl_check.specs.Joining.{Maps}
use Rattle.gl_check.specs.Lawful.{IsLawfulCall}
use Rattle.gl_check.specs.Programs.{actor_of, after_of, setup_of}
use Rattle.gl_check.specs.Tells.{TellsAfter}
use Rattle.gl_check.specs.One.{Answering, asked_over, entries_made, entries_over, maps_over, one, one_over, planned_over, taken, taken_over, told_behind, told_over}
use Rattle.gl_asking.specs.Files.{OpenFile}
use Rattle.gl_check.specs.Turns.{AreSeen, Carried, Did, Exchange, Played, Said, Turn, carried}

-- a program that was carried out to its end from these open files and these maps on: what it printed, what it did, and what it left
pub record Part (driver : DriverKind) (program : Program Names) (files : List OpenFile) (told : Option Told) (m : Maps) : Type 0 where
  pub text : List ℕ
  pub did : List OneDeed
  pub names : Names
  pub behind : Carried
  pub played : Played driver 0 program (carried files told m) text did names behind

-- The sections of a session, carried out by actor 0 one after another: `setup` and `after` are one talk, which waits in between
-- with its files and names, and the actor's section is a talk of its own.
pub record PlayedSession (driver : DriverOver) (sections : List SaidSection) (before : Option Told) (text : List ℕ) (did : List OneDeed) (left : Option Told) : Type 0 where
  pub setup : Part driver.kind (setup_of sections) [] before (start_maps driver)
  pub actor : Part driver.kind (actor_of sections) [] setup.behind.told setup.behind.maps
  pub last : Part driver.kind (after_of sections setup.names) setup.behind.files actor.behind.told actor.behind.maps
  pub text_is : text ≡ (setup.text ++ actor.text) ++ last.text
  pub did_is : did ≡ setup.did ++ (actor.did ++ last.did)
  pub left_is : left ≡ last.behind.told

-- the calls of entries
abbrev pub calls_in : List OneEntry → List Call
calls_in [] = []
calls_in (e ∷ es) = e.call ∷ calls_in es

-- a command on an open file, or a part of one
abbrev pub is_command : Call → Bool
is_command (Ioctl place fd cmd len bytes part) = true
is_command _ = false

-- entries that begin with the ask of a command which was answered Go: between it and the tell the driver was asked
abbrev pub begins_asked : List OneEntry → Bool
begins_asked [] = false
begins_asked (e ∷ es) = is_command e.call && begins e.call e.reply

-- what the driver did in an exchange in which it was asked, in an exchange, and in turns
abbrev pub answering_in : Exchange → Answering
answering_in e = record { own = calls_in e.own; answer = e.answer }

abbrev pub given_in : Exchange → List Answering
given_in e = if begins_asked (entries_in e.did) then answering_in e ∷ [] else []

abbrev pub given_by : List Turn → List Answering
given_by [] = []
given_by (Said text ∷ turns) = given_by turns
given_by (Did e ∷ turns) = given_in e ++ given_by turns

-- and in a session
abbrev pub given_of : (driver : DriverOver) (sections : List SaidSection) (before : Option Told) (text : List ℕ) (did : List OneDeed) (left : Option Told)
    → PlayedSession driver sections before text did left → List Answering
given_of driver sections before text did left p = given_by p.setup.played.turns ++ (given_by p.actor.played.turns ++ given_by p.last.played.turns)

-- Where the driver goes by a map in one of the three parts, fewer entries than `most` had been seen before the last one of its call; so there was
-- room for more where the history has room for as many.
pub record ArePartsSeen (driver : DriverOver) (sections : List SaidSection) (before : Option Told) (text : List ℕ) (did : List OneDeed) (left : Option Told)
    (p : PlayedSession driver sections before text did left) (room most : ℕ) : Type 0 where
  pub setup : AreSeen room most p.setup.played.turns
  pub actor : AreSeen room most p.actor.played.turns
  pub last : AreSeen room most p.last.played.turns

abbrev pub ArePartsWithin : (driver : DriverOver) (sections : List SaidSection) (before : Option Told) (text : List ℕ) (did : List OneDeed) (left : Option Told)
    → PlayedSession driver sections before text did left → Type 0
ArePartsWithin driver sections before text did left p = ArePartsSeen driver sections before text did left p (session_cost sections) (session_cost sections)

-- a legal history that has the entries of actor 0 alone, and these are what it did
pub record IsAlone (history : List OneEntry) (did : List OneDeed) : Type 0 where
  pub legal : Legal core history
  pub entries : history ≡ entries_in did
  pub deeds : deeds_of core 0 history ≡ did

-- The first actor of a new device did this, and no other actor was made until the device came to its end: then its history has
-- these entries alone.
abbrev pub FirstActorIsAlone : Type 0
FirstActorIsAlone = (room : ℕ) (v w : OneView) (did : List OneDeed) (history : List OneEntry) → v ≡ newcomer 0 room [] 1 [] [] → Grew core v did w
    → Legal core history → StartsWith history w.seen → entries_of 0 history ≡ w.mine → ((n : ℕ) → w.made ≤ n → entries_of n history ≡ [])
    → IsAlone history did

-- The first actor of a new device did this, and no other actor was made so far: then it has seen these entries alone. (What no actor
-- could see of strangers, each pass of the gate tells: `Pass::number`.)
abbrev pub FirstActorSeesItself : Type 0
FirstActorSeesItself = (room : ℕ) (v w : OneView) (did : List OneDeed) → v ≡ newcomer 0 room [] 1 [] [] → Grew core v did w → NoStrangers w w.seen → w.seen ≡ entries_in did

-- What was printed is One over what the driver did where it was asked, calls of its own included; One takes just that, makes
-- as many entries, and leaves the port with the same maps.
abbrev pub PrintsOver : DriverOver → Type 0
PrintsOver driver = (sections : List SaidSection) (before left : Option Told) (text : List ℕ) (did : List OneDeed) (history : List OneEntry)
    (p : PlayedSession driver sections before text did left) → IsAlone history did → let given = given_of driver sections before text did left p in
    (text ≡ one_over driver.kind.limit driver.maps_left sections given) × (taken_over driver.kind.limit driver.maps_left sections given ≡ given)
    × (entries_over driver.kind.limit driver.maps_left sections given ≡ length history)
    × (maps_over driver.kind.limit driver.maps_left sections given ≡ p.last.behind.maps)

-- No port of the session ever keeps a map: it takes none, or is taught none.
abbrev pub KeepsNoMaps : DriverOver → List SaidSection → Type 0
KeepsNoMaps driver sections = (driver.maps_left ≡ 0) ⊎ (has_aggregate sections ≡ false)

-- Then what was printed is One of the answers that the driver's tells have in order, One takes just these, and makes as many entries.
abbrev pub PrintsOne : DriverOver → Type 0
PrintsOne driver = (sections : List SaidSection) (before left : Option Told) (text : List ℕ) (did : List OneDeed) (history : List OneEntry)
    → KeepsNoMaps driver sections → PlayedSession driver sections before text did left → IsAlone history did
    → (text ≡ one sections (tells_in history)) × (taken sections (tells_in history) ≡ tells_in history) × (entries_made sections (tells_in history) ≡ length history)

-- And a planned driver over a port that tells answers as the port's plan and its statements say.
abbrev pub AnswersAsPlanned : DriverOver → Type 0
AnswersAsPlanned driver = driver.kind.is_planned ≡ true → (sections : List SaidSection) (t : Told) (left : Option Told) (text : List ℕ) (did : List OneDeed) (history : List OneEntry)
    → KeepsNoMaps driver sections → PlayedSession driver sections (Some t) text did left → IsAlone history did → tells_in history ≡ planned_over t sections

-- Each call of the driver is one that it may make, and was made while there was room.
abbrev pub AsksLawfully : DriverOver → Type 0
AsksLawfully driver = (sections : List SaidSection) (before left : Option Told) (text : List ℕ) (did : List OneDeed) (history : List OneEntry)
    (p : PlayedSession driver sections before text did left) → IsAlone history did → ArePartsWithin driver sections before text did left p
    → Each (IsLawfulCall driver.kind (session_cost sections)) (asked_over driver.kind.limit driver.maps_left sections (given_of driver sections before text did left p) before)

-- Every driver is asked through the port: it tells in the end all that the statements and the calls make of it over what the driver did; where
-- no port keeps maps, over the answers of the history's tells. So where it told, it tells just these answers.
pub record PortTells (driver : DriverOver) : Type 0 where
  pub over : (sections : List SaidSection) (before left : Option Told) (text : List ℕ) (did : List OneDeed) (history : List OneEntry)
      (p : PlayedSession driver sections before text did left) → IsAlone history did
      → left ≡ told_over driver.kind.limit driver.maps_left sections (given_of driver sections before text did left p) before
  pub whole : (sections : List SaidSection) (before left : Option Told) (text : List ℕ) (did : List OneDeed) (history : List OneEntry)
      → KeepsNoMaps driver sections → PlayedSession driver sections before text did left → IsAlone history did → left ≡ told_behind sections (tells_in history) before
  pub answers : (sections : List SaidSection) (t : Told) (left : Option Told) (text : List ℕ) (did : List OneDeed) (history : List OneEntry)
      → KeepsNoMaps driver sections → PlayedSession driver sections (Some t) text did left → IsAlone history did → TellsAfter t (tells_in history) left
