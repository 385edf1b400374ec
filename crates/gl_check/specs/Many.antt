-- Many: what a session with two or more actors did, by its history and its texts. Each actor carries its section out as a talk of
-- its own; the history has its entries in order, with other actors' between them. Actor 0 has `setup` in front of all other
-- actors' entries, and `after` after them. This project's choice.
use Rattle.std.specs.Prelude.{◌≡◌, ℕ, zero, suc, ◌+◌, ◌-◌, ◌<◌, ◌≤◌, if◌then◌else◌, List, [], ◌∷◌, ◌++◌, length, map, get_or, Option, Some, None}
use Rattle.gl_base.specs.Words.{Span}
use Rattle.gl_world.specs.Deeds.{deeds_from, deeds_of}
use Rattle.gl_world.specs.History.{Legal, entries_of, fold}
use Rattle.gl_client.specs.Program.{Program}
use Rattle.gl_driver.specs.Told.{Told, new_port}
use Rattle.gl_script.specs.Columns.{columns}
use Rattle.gl_script.specs.Cost.{session_cost}
use Rattle.gl_script.specs.Section.{SaidSection}
use Rattle.gl_script.specs.declared.section.SectionKind.TheVariants.{Actor}
use Rattle.gl_talk.specs.Open.{Names, no_names}
use Rattle.gl_talk.specs.Talk.{talks}
use Rattle.gl_core.specs.Device.{OneEntry, core}
use Rattle.gl_check.specs.Drivers.{DriverOver, over, planning, start_maps, untold}
use Rattle.gl_check.specs.Joining.{Maps}
use Rattle.gl_check.specs.Tells.{TellsAfter, outer_tells}
use Rattle.gl_check.specs.Programs.{after_of, setup_of}
use Rattle.gl_check.specs.One.{is_kind}
use Rattle.gl_check.specs.Turns.{AreSeen, Carried, Played, Turn, carried}

-- the sections of actors, in order: actor n, counted from 1, has the nth
abbrev pub actor_sections : List SaidSection → List SaidSection
actor_sections [] = []
actor_sections (section ∷ sections) = if is_kind Actor section.kind then section ∷ actor_sections sections else actor_sections sections

abbrev pub no_section : SaidSection
no_section = record { kind = Actor; name = []; statements = [] }

-- the words of a section's statements
abbrev pub words_of : SaidSection → List (List Span)
words_of section = map (λ line. columns line.text) section.statements

-- what actor n carries out: the statements of its section, and then the closing of its files
abbrev pub program_of : List SaidSection → ℕ → Program Names
program_of sections n = talks 0 (words_of (get_or (actor_sections sections) (n - 1) no_section)) no_names

-- the texts of `setup`, of each actor in order, and of `after`
pub record Texts : Type 0 where
  pub setup : List ℕ
  pub actors : List (List ℕ)
  pub last : List ℕ

-- A port for each actor by its number, which may tell what went through it.
-- `before`: what each told at the beginning. `left`: what it tells at the end.
module _ (driver : DriverOver) (before left : ℕ → Option Told) (sections : List SaidSection) (history : List OneEntry) where
  -- Where a driver goes by a map, fewer entries than `most` had been seen before the last one of its call.
  module _ (most : ℕ) where
    -- Actor n carried its section out, over a port with these maps, which `setup` left: its entries in the history are just those of the
    -- operations of its talk, in order, each result that of the history's reply, and this is its text.
    pub record ActorPlayedBelow (m : Maps) (n : ℕ) (text : List ℕ) : Type 0 where
      pub names : Names
      pub behind : Carried
      pub played : Played driver.kind n (program_of sections n) (carried [] (before n) m) text (deeds_of core n history) names behind
      pub within : AreSeen (session_cost sections) most played.turns
      pub left_is : behind.told ≡ left n

    -- the actors from n on, with their texts
    abbrev pub ActorsPlayedBelow : Maps → ℕ → List (List ℕ) → Type 0
    ActorsPlayedBelow m n [] = Unit {0}
    ActorsPlayedBelow m n (text ∷ texts) = ActorPlayedBelow m n text × ActorsPlayedBelow m (n + 1) texts

    -- All actors carried out their parts. The history is that of `setup`, then that of the actors' sections, and then that of `after`.
    pub record AllPlayedBelow (texts : Texts) : Type 0 where
      pub legal : Legal core history
      pub first : List OneEntry
      pub middle : List OneEntry
      pub last : List OneEntry
      pub is : history ≡ (first ++ middle) ++ last
      pub others_not_first : (n : ℕ) → 1 ≤ n → entries_of n first ≡ []
      pub zero_not_between : entries_of 0 middle ≡ []
      pub others_not_last : (n : ℕ) → 1 ≤ n → entries_of n last ≡ []
      -- `setup` and `after` are one talk, which waits in between with its files and names
      pub names : Names
      pub waiting : Carried
      pub setup : Played driver.kind 0 (setup_of sections) (carried [] (before 0) (start_maps driver)) texts.setup (deeds_of core 0 first) names waiting
      pub setup_within : AreSeen (session_cost sections) most setup.turns
      pub end : Names
      pub behind : Carried
      pub after : Played driver.kind 0 (after_of sections names) waiting texts.last (deeds_from core (fold core (first ++ middle)) 0 last) end behind
      pub after_within : AreSeen (session_cost sections) most after.turns
      pub left_is : behind.told ≡ left 0
      pub actors : ActorsPlayedBelow waiting.maps 1 texts.actors
      pub as_many : length texts.actors ≡ length (actor_sections sections)
      -- and nobody else has an entry
      pub nobody_else : (n : ℕ) → length (actor_sections sections) < n → entries_of n history ≡ []

  -- There was room for more each time: so many as the session costs.
  abbrev pub ActorPlayed : Maps → ℕ → List ℕ → Type 0
  ActorPlayed = ActorPlayedBelow (session_cost sections)

  abbrev pub ActorsPlayed : Maps → ℕ → List (List ℕ) → Type 0
  ActorsPlayed = ActorsPlayedBelow (session_cost sections)

  abbrev pub AllPlayed : Texts → Type 0
  AllPlayed = AllPlayedBelow (session_cost sections)

-- ports that tell nothing, and new ports
abbrev pub silent : ℕ → Option Told
silent n = None

abbrev pub all_new : ℕ → Option Told
all_new n = Some new_port

-- Many: the history is legal, each actor's entries in it are parts of the operations of its talk, in order, with the history's replies as
-- results, and its text is that talk's. The entries that the driver makes of its own are such as it may make, and there is room for all of
-- them. Each port takes so many maps at the beginning (`maps_left`): an `aggregate` after as many is refused. No word on what ports tell.
abbrev pub Many : DriverOver → List SaidSection → List OneEntry → Texts → Type 0
Many driver sections history texts = AllPlayed (over driver.maps_left (untold driver.kind)) silent silent sections history texts

-- Each actor's tells have, in order, the answers that a planned driver gives through a new port to that actor's statements about its port
-- and to its driver calls, in the order of its section, or for actor 0 of `setup` and then `after`; at a place with a map the answer that
-- follows.
abbrev pub PlannedTells : DriverOver → List SaidSection → List OneEntry → Texts → Type 0
PlannedTells driver sections history texts = (left : ℕ → Option Told) × AllPlayed (over driver.maps_left (planning driver.kind)) all_new left sections history texts

-- Where an actor's port told, it tells in the end as many driver calls more as the actor's turns have tells, those of a driver's own entries left
-- out, and as its last answer that of the last of them.
module _ (driver : DriverOver) (before left : ℕ → Option Told) (sections : List SaidSection) (history : List OneEntry) where
  -- the turns of the nth of these actors
  abbrev pub turns_among : (m : Maps) (n : ℕ) (texts : List (List ℕ)) → ActorsPlayed driver before left sections history m n texts → ℕ → List Turn
  turns_among m n [] actors at = []
  turns_among m n (text ∷ texts) actors zero = actors.0.played.turns
  turns_among m n (text ∷ texts) actors (suc at) = turns_among m (n + 1) texts actors.1 at

  -- and of the actor of a number: those of actor 0 are in `setup` and in `after`
  abbrev pub turns_of : (texts : Texts) → AllPlayed driver before left sections history texts → ℕ → List Turn
  turns_of texts played zero = played.setup.turns ++ played.after.turns
  turns_of texts played (suc at) = turns_among played.waiting.maps 1 texts.actors played.actors at

  abbrev pub PortsTell : (texts : Texts) → AllPlayed driver before left sections history texts → Type 0
  PortsTell texts played =
      (n : ℕ) (t : Told) → n ≤ length (actor_sections sections) → before n ≡ Some t → TellsAfter t (outer_tells (turns_of texts played n)) (left n)
