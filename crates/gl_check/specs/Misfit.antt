-- Where a history stops being that of a session: its first entry that isn't legal after those before it, or isn't the next one of its
-- actor, or comes before its actor's turn. A planned driver with new ports gave the answers. This project's choice.
use Rattle.std.specs.Prelude.{◌≡◌, ◌⊎◌, ℕ, zero, suc, ◌+◌, ◌<◌, ◌==◌, Bool, true, false, ◌&&◌, cond, List, [], ◌∷◌, length, take, Option, Some, None}
use Rattle.gl_client.specs.Program.{Left, Program, ask, done, goes_on, print, waits}
use Rattle.gl_world.specs.Deeds.{deed_in}
use Rattle.gl_script.specs.Section.{SaidSection}
use Rattle.gl_model.specs.Machine.{world_after}
use Rattle.gl_model.specs.World.{World, opening}
use Rattle.gl_talk.specs.Open.{Names, no_names}
use Rattle.gl_core.specs.Device.{OneDeed, OneEntry, core}
use Rattle.gl_core.specs.Legal.{GoesOn}
use Rattle.gl_check.specs.Drivers.{over, plain}
use Rattle.gl_check.specs.Many.{Many, PlannedTells, Texts, actor_sections, program_of}
use Rattle.gl_check.specs.Programs.{after_of, setup_of}
use Rattle.gl_check.specs.Seats.{Seat, Suits, is_ended, moved, new_bearing, settles}

-- actors 1 to n are at their end
abbrev pub all_ended : ℕ → (ℕ → Seat) → Bool
all_ended zero others = true
all_ended (suc n) others = is_ended (others (suc n)).stand && all_ended n others

-- the seats with another one for actor n
abbrev pub with_other : ℕ → Seat → (ℕ → Seat) → ℕ → Seat
with_other n s others k = cond (n == k) s (others k)

-- what k actors printed, from actor n on
abbrev pub others_texts : ℕ → ℕ → (ℕ → Seat) → List (List ℕ)
others_texts n zero others = []
others_texts n (suc k) others = (others n).text ∷ others_texts (n + 1) k others

-- How a session stands in the midst of a history: the world, actor 0 in `setup` and, once it has made an entry there, in `after`, and the
-- other actors by their numbers.
pub record Moment : Type 0 where
  pub world : World
  pub setup : Seat
  pub last : Option Seat
  pub others : ℕ → Seat

-- the names that a program gave at its end
abbrev pub value_done : Program Names → Names
value_done (done value) = value
value_done (print text p) = no_names
value_done (ask what rest) = no_names

abbrev pub value_left : Left Names → Names
value_left (goes_on p) = value_done p
value_left (waits rest) = no_names

module _ (sections : List SaidSection) where
  -- how many actors there are beside actor 0
  abbrev pub actors_in : ℕ
  actors_in = length (actor_sections sections)

  -- each actor at the beginning, with a new port and no open file
  abbrev pub beginning : Moment
  beginning = record {
    world = opening;
    setup = settles (setup_of sections) new_bearing [];
    last = None;
    others = λ n. settles (program_of sections n) new_bearing [];
  }

  -- `after`, as it begins: it goes on with the files, the names and the port of `setup`
  abbrev pub after_begun : Seat → Seat
  after_begun setup = settles (after_of sections (value_left setup.left)) setup.bearing []

  abbrev pub last_by : Option Seat → Seat → Seat
  last_by None setup = after_begun setup
  last_by (Some s) setup = s

  -- actor 0 in `after`
  abbrev pub last_of : Moment → Seat
  last_of c = last_by c.last c.setup

  -- It is the next entry of its actor, whose turn it may be: by whether `setup` is at its end. First comes actor 0 in `setup`; then the
  -- others; and actor 0 in `after`, once all others are at their end.
  abbrev pub MayGo : Bool → ℕ → Moment → OneEntry → Type 0
  MayGo false zero c e = Suits c.setup e
  MayGo true zero c e = (all_ended actors_in c.others ≡ true) × Suits (last_of c) e
  MayGo false (suc n) c e = ⊥
  MayGo true (suc n) c e = Suits (c.others (suc n)) e

  -- an entry fits: it is legal, and one that may come next
  abbrev pub FitsIn : Moment → OneEntry → Type 0
  FitsIn c e = GoesOn c.world e.actor e.call e.reply × MayGo (is_ended c.setup.stand) e.actor c e

  abbrev pub after_by : Bool → ℕ → OneDeed → World → Moment → Moment
  after_by false zero d w c = record { world = w; setup = moved c.setup d; last = c.last; others = c.others }
  after_by true zero d w c = record { world = w; setup = c.setup; last = Some (moved (last_of c) d); others = c.others }
  after_by _ (suc n) d w c = record { world = w; setup = c.setup; last = c.last; others = with_other (suc n) (moved (c.others (suc n)) d) c.others }

  -- how the session stands after an entry that fits
  abbrev pub after_entry : Moment → OneEntry → Moment
  after_entry c e = after_by (is_ended c.setup.stand) e.actor (deed_in core c.world e) (world_after c.world e.actor e.call) c

  -- all entries fit, one after the other
  abbrev pub AllFit : Moment → List OneEntry → Type 0
  AllFit c [] = Unit {0}
  AllFit c (e ∷ es) = FitsIn c e × AllFit (after_entry c e) es

  abbrev pub behind : Moment → List OneEntry → Moment
  behind c [] = c
  behind c (e ∷ es) = behind (after_entry c e) es

  -- all actors are at their end
  pub record AtEnd (c : Moment) : Type 0 where
    pub setup : is_ended c.setup.stand ≡ true
    pub others : all_ended actors_in c.others ≡ true
    pub last : is_ended (last_of c).stand ≡ true

  -- The misfit of a history, or none: the index of its first entry that doesn't fit, counted from 0; or the number of its entries, where
  -- all fit and an actor isn't at its end.
  abbrev pub IsMisfit : List OneEntry → Option ℕ → Type 0
  IsMisfit history None = AllFit beginning history × AtEnd (behind beginning history)
  IsMisfit history (Some i) = AllFit beginning (take i history)
      × (((i < length history) × (AllFit beginning (take (i + 1) history) → ⊥)) ⊎ ((i ≡ length history) × (AtEnd (behind beginning history) → ⊥)))

  -- what each part printed
  abbrev pub texts_in : Moment → Texts
  texts_in c = record { setup = c.setup.text; actors = others_texts 1 actors_in c.others; last = (last_of c).text }

  -- the texts of a history
  abbrev pub texts_of : List OneEntry → Texts
  texts_of history = texts_in (behind beginning history)

-- There is no misfit exactly where PlannedTells holds for some texts, over ports that take no maps. Then Many holds for the same texts, and
-- PlannedTells for no others.
-- And IsMisfit holds for at most one answer: no history has two misfits, and none that has one has none.
pub record JudgesMany (sections : List SaidSection) (history : List OneEntry) : Type 0 where
  pub sound : IsMisfit sections history None → Many (over 0 plain) sections history (texts_of sections history) × PlannedTells (over 0 plain) sections history (texts_of sections history)
  pub complete : (texts : Texts) → PlannedTells (over 0 plain) sections history texts → IsMisfit sections history None × (texts ≡ texts_of sections history)
  pub at_most_one : (i j : Option ℕ) → IsMisfit sections history i → IsMisfit sections history j → i ≡ j

abbrev pub MisfitIsNoneForMany : Type 0
MisfitIsNoneForMany = (sections : List SaidSection) (history : List OneEntry) → JudgesMany sections history
