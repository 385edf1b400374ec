-- Which files the end of a talk closes on the device, and in which order. This project's choice.
use Rattle.std.specs.Prelude.{◌≡◌, ℕ, ◌-◌, nat_lt, List, [], ◌∷◌, ◌++◌, length, map, get_or, Option, None, Some}
use Rattle.gl_base.specs.Ordered.{ordered}
use Rattle.gl_base.specs.declared.operation.Do.{Do}
use Rattle.gl_base.specs.declared.operation.Do.TheVariants.{Close}
use Rattle.gl_world.specs.History.{Legal}
use Rattle.gl_client.specs.Entries.{IsKept}
use Rattle.gl_client.specs.Program.{Program, done}
use Rattle.gl_driver.specs.Told.{Told}
use Rattle.gl_script.specs.Section.{SaidSection}
use Rattle.gl_script.specs.declared.section.SectionKind.TheVariants.{Setup, Actor, After}
use Rattle.gl_talk.specs.Open.{Names, left_setup, no_names}
use Rattle.gl_talk.specs.Talk.{quits, says}
use Rattle.gl_core.specs.Device.{OneDeed, OneEntry, core}
use Rattle.gl_session.specs.Alone.{IsAlone, PlayedSession}
use Rattle.gl_asking.specs.Asking.{files_behind, got_of}
use Rattle.gl_asking.specs.Files.{OpenFile, file_in}
use Rattle.gl_check.specs.Drivers.{DriverKind, DriverOver}
use Rattle.gl_check.specs.Joining.{Maps}
use Rattle.gl_check.specs.Many.{ActorPlayed, AllPlayed, Texts, actor_sections, no_section, words_of}
use Rattle.gl_check.specs.One.{said_in_kind}
use Rattle.gl_check.specs.Turns.{Carried, Did, Follows, Said, Turn, carried}

-- the numbers of open files
abbrev pub numbers_of : List OpenFile → List ℕ
numbers_of files = map (λ file. file.fd) files

-- the number of the file that is closed, if there is one
abbrev pub number_in : Option OpenFile → List ℕ
number_in None = []
number_in (Some file) = file.fd ∷ []

abbrev pub closed_by : List OpenFile → Do → List ℕ
closed_by files (Close slot) = number_in (file_in slot files)
closed_by files _ = []

-- the numbers of the files that turns close, one after another, where these files are open before
abbrev pub closed_in : List OpenFile → List Turn → List ℕ
closed_in files [] = []
closed_in files (Said text ∷ turns) = closed_in files turns
closed_in files (Did e ∷ turns) = closed_by files e.what ++ closed_in (files_behind e.what e.reply files) turns

-- none of the closings among turns was refused
abbrev pub AreKept : List Turn → Type 0
AreKept [] = Unit {0}
AreKept (Said text ∷ turns) = AreKept turns
AreKept (Did e ∷ turns) = IsKept e.what (got_of e.what e.reply e.wrote) × AreKept turns

-- The last turns of a talk, which leave the actor so: first those of its statements, then those of its end; `earlier` are the turns of the
-- same talk before these. Where no closing among all statements of the talk was refused, the end closes just the files that are open then,
-- each once, in the order of their numbers, and leaves none.
pub record ClosesByNumber (driver : DriverKind) (actor : ℕ) (earlier : List Turn) (statements : Program Names) (s : Carried) (turns : List Turn) (last : Names) (r : Carried) : Type 0 where
  pub begun : List Turn
  pub ending : List Turn
  pub turns_are : turns ≡ begun ++ ending
  pub names : Names
  pub between : Carried
  pub follows : Follows driver actor statements s begun (done names) between
  pub ends : Follows driver actor (quits names) between ending (done last) r
  pub in_order : AreKept earlier → AreKept begun → closed_in between.files ending ≡ ordered nat_lt (numbers_of between.files)
  pub leaves_none : AreKept earlier → AreKept begun → r.files ≡ []

-- the statements of an actor's section, and those of `after` by the names that `setup` gave
abbrev pub section_statements : List SaidSection → ℕ → Program Names
section_statements sections n = says 0 (words_of (get_or (actor_sections sections) (n - 1) no_section)) done no_names

abbrev pub after_statements : List SaidSection → Names → Program Names
after_statements sections names = says (length (said_in_kind Setup sections)) (said_in_kind After sections) done (left_setup names)

-- So each actor's section ends in a legal history of several actors, and so does the talk of `setup` and `after`: of these the end
-- closes what either left open, and it stands after `after`.
pub record ActorsCloseByNumber (driver : DriverOver) : Type 0 where
  pub sections : (before left : ℕ → Option Told) (sections : List SaidSection) (history : List OneEntry) → Legal core history
      → (m : Maps) (n : ℕ) (text : List ℕ) (actor : ActorPlayed driver before left sections history m n text)
      → ClosesByNumber driver.kind n [] (section_statements sections n) (carried [] (before n) m) actor.played.turns actor.names actor.behind
  pub after : (before left : ℕ → Option Told) (sections : List SaidSection) (history : List OneEntry) (texts : Texts)
      (all : AllPlayed driver before left sections history texts)
      → ClosesByNumber driver.kind 0 all.setup.turns (after_statements sections all.names) all.waiting all.after.turns all.end all.behind

-- The same of the two talks of a session of one actor: its section closes its own files alone, while those of `setup` stay open.
pub record OneActorClosesByNumber (driver : DriverOver) : Type 0 where
  pub section : (sections : List SaidSection) (before left : Option Told) (text : List ℕ) (did : List OneDeed) (history : List OneEntry)
      (played : PlayedSession driver sections before text did left) → IsAlone history did
      → ClosesByNumber driver.kind 0 [] (says 0 (said_in_kind Actor sections) done no_names) (carried [] played.setup.behind.told played.setup.behind.maps)
      played.actor.played.turns played.actor.names played.actor.behind
  pub after : (sections : List SaidSection) (before left : Option Told) (text : List ℕ) (did : List OneDeed) (history : List OneEntry)
      (played : PlayedSession driver sections before text did left) → IsAlone history did
      → ClosesByNumber driver.kind 0 played.setup.played.turns (after_statements sections played.setup.names) (carried played.setup.behind.files played.actor.behind.told played.actor.behind.maps)
      played.last.played.turns played.last.names played.last.behind
