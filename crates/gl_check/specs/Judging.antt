-- What the judge of the code stands for in the midst of a history.
use Rattle.std.specs.Prelude.{◌≡◌, ℕ, ◌+◌, ◌-◌, ◌<◌, Bool, true, false, List, ◌++◌, length, get_or, take, Option, None, Some}
use Rattle.std.specs.Bool.{Decides}
use Rattle.gl_base.specs.Words.{Span}
use Rattle.gl_core.specs.Device.{OneEntry}
use Rattle.gl_core.specs.Kept.{StandsFor}
use Rattle.gl_script.specs.Section.{SaidSection}
use Rattle.gl_script.specs.declared.section.SectionKind.TheVariants.{Setup, After}
use Rattle.gl_check.specs.Many.{actor_sections, no_section, words_of}
use Rattle.gl_check.specs.Misfit.{AllFit, FitsIn, Moment, actors_in, after_entry, beginning, behind, last_of}
use Rattle.gl_check.specs.One.{said_in_kind}
use Rattle.gl_check.specs.Seating.{IsKept, seat_in}
use Rattle.gl_check.specs.Seats.{Seat as SeatOf, is_ended}
use Rattle.gl_check.specs.declared.judge.Judge.{Judge}
use Rattle.gl_check.specs.declared.seat.Seat.{Seat}

module _ (sections : List SaidSection) where
  -- the words of the statements of `setup`, of `setup` and `after`, and of each other actor by its number
  abbrev pub setup_words : List (List Span)
  setup_words = said_in_kind Setup sections

  abbrev pub all_words : List (List Span)
  all_words = said_in_kind Setup sections ++ said_in_kind After sections

  abbrev pub actor_words : ℕ → List (List Span)
  actor_words n = words_of (get_or (actor_sections sections) (n - 1) no_section)

  -- Actor 0 in `setup`; or in `after`, where this is what `setup` had printed.
  abbrev pub IsFirst : Bool → Seat → List ℕ → Moment → Type 0
  IsFirst false s printed c = (seat_in false setup_words s ≡ c.setup) × IsKept false setup_words s × (c.last ≡ None)
  IsFirst true s printed c = (seat_in true all_words s ≡ last_of sections c) × IsKept true all_words s × (printed ≡ c.setup.text)

  -- a seat of the code is that of actor n
  pub record IsSeatOf (n : ℕ) (s : Seat) (t : SeatOf) : Type 0 where
    pub is : seat_in true (actor_words n) s ≡ t
    pub kept : IsKept true (actor_words n) s

  -- seats of the code stand for the actors from 1 on
  abbrev pub AreSeats : List Seat → (ℕ → SeatOf) → Type 0
  AreSeats seats others = (i : ℕ) (d : Seat) → i < length seats → IsSeatOf (i + 1) (get_or seats i d) (others (i + 1))

  -- the judge stands for this moment
  pub record Judges (j : Judge) (c : Moment) : Type 0 where
    pub world : StandsFor j.core c.world
    pub phase : j.after ≡ is_ended c.setup.stand
    pub first : IsFirst j.after j.first j.setup.items c
    pub others : AreSeats j.others.items c.others
    pub as_many : length j.others.items ≡ actors_in sections
    pub beyond : (n : ℕ) → actors_in sections < n → is_ended (c.others n).stand ≡ true

  -- whether an entry fits; and where it does, the judge stands for the moment after it
  pub record IsTaken (e : OneEntry) (c : Moment) (good : Bool) (k : Judge) : Type 0 where
    pub fits : Decides good (FitsIn sections c e)
    pub goes : good ≡ true → Judges k (after_entry sections c e)

  -- it was told of entries where they stop fitting, if they do
  abbrev pub AreTaken : List OneEntry → Judge → Option ℕ → Type 0
  AreTaken history k None = AllFit sections (beginning sections) history × Judges k (behind sections (beginning sections) history)
  AreTaken history k (Some i) = (i < length history) × AllFit sections (beginning sections) (take i history) × (AllFit sections (beginning sections) (take (i + 1) history) → ⊥)

-- what is known of actor 0, in `setup` and in `after`
abbrev pub IsKeptIn : Bool → List (List Span) → List (List Span) → Seat → Type 0
IsKeptIn false setup all s = IsKept false setup s
IsKeptIn true setup all s = IsKept true all s

-- the same of every session with these statements in `setup` and `after`, and of every moment that the judge stands for
abbrev pub Takes : List (List Span) → List (List Span) → Judge → OneEntry → Bool → Judge → Type 0
Takes setup all j e good k = (sections : List SaidSection) (c : Moment) → setup ≡ setup_words sections → all ≡ all_words sections → Judges sections j c → IsTaken sections e c good k
