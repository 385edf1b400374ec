-- The earliest of deadlines.
use Rattle.std.specs.Prelude.{ℕ, nat_le, if◌then◌else◌, List, [], ◌∷◌, map, Option, Some, None}
use Rattle.gl_debounce.specs.Order.{deadline_of}
use Rattle.gl_debounce.specs.declared.timer.Timer.{Timer}

abbrev pub sooner : Option ℕ → Option ℕ → Option ℕ
sooner None other = other
sooner (Some moment) None = Some moment
sooner (Some moment) (Some other) = if nat_le moment other then Some moment else Some other

abbrev pub earliest_of : List (Option ℕ) → Option ℕ
earliest_of [] = None
earliest_of (deadline ∷ deadlines) = sooner deadline (earliest_of deadlines)

-- the earliest deadline of lines, if one of them has a deadline
abbrev pub earliest : List (Option Timer) → Option ℕ
earliest timers = earliest_of (map deadline_of timers)
