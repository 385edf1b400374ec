-- The refusals of a call, in their order, and what comes of a call that may be refused.
use Rattle.std.specs.Prelude.{Bool, if◌then◌else◌, List, [], ◌∷◌, Option, Some, None, Result, Ok, Err}
use Rattle.std.specs.Option.{option_or}

module _ {E : Type 0} where
  -- the fault, where the test holds
  abbrev pub when : Bool → E → Option E
  when test fault = if test then Some fault else None

  -- the first fault of some, if there is one
  abbrev pub first_of : List (Option E) → Option E
  first_of [] = None
  first_of (fault ∷ faults) = option_or fault (first_of faults)

  -- what a call answers: its fault where it is refused, else this value
  abbrev pub answer : {A : Type 0} → Option E → A → Result A E
  answer None value = Ok value
  answer (Some fault) value = Err fault

  -- what a call leaves: the old state where it is refused, else the new one
  abbrev pub unless : {S : Type 0} → Option E → S → S → S
  unless None new old = new
  unless (Some fault) new old = old
