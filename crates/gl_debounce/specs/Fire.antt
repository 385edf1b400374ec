-- Which lines' levels settle, and in which order.
use Rattle.std.specs.Prelude.{ℕ, Bool, ◌+◌, ◌/◌, ◌%◌, ◌&&◌, ◌||◌, ◌==◌, not, nat_le, nat_lt, if◌then◌else◌, List, [], ◌∷◌, Option, Some, None}
use Rattle.std.specs.Bool.{beq}
use Rattle.gl_base.specs.Ordered.{ordered}
use Rattle.gl_base.specs.declared.limits.TheConstants.{LINES_MAX}
use Rattle.gl_debounce.specs.declared.timer.Fired.{Fired}
use Rattle.gl_debounce.specs.declared.timer.Timer.{Timer}
use Rattle.gl_debounce.specs.Timer.{settled_at_raw, with_timer}

-- a line settles: at the level that it has
abbrev pub fired : ℕ → ℕ → Timer → Fired
fired n deadline timer = record {
  place = n / LINES_MAX;
  offset = n % LINES_MAX;
  deadline = deadline;
  level = timer.raw;
  changed = not (beq timer.raw timer.settled);
}

-- whether the deadline has come
abbrev pub when_due : ℕ → ℕ → Timer → Option ℕ → Option Fired
when_due now n timer None = None
when_due now n timer (Some deadline) = if nat_le deadline now then Some (fired n deadline timer) else None

-- the line with number n, if it has a timer whose deadline has come
abbrev pub fired_at : ℕ → ℕ → Option Timer → Option Fired
fired_at now n None = None
fired_at now n (Some timer) = when_due now n timer timer.deadline

-- one more, if there is one
abbrev pub with_fired : Option Fired → List Fired → List Fired
with_fired None others = others
with_fired (Some line) others = line ∷ others

-- the lines from number n on whose deadline has come
abbrev pub due : ℕ → ℕ → List (Option Timer) → List Fired
due now n [] = []
due now n (timer ∷ timers) = with_fired (fired_at now n timer) (due now (n + 1) timers)

-- order by deadline, place and offset
abbrev pub comes_before : Fired → Fired → Bool
comes_before a b =
    nat_lt a.deadline b.deadline
    || (a.deadline == b.deadline && (nat_lt a.place b.place || (a.place == b.place && nat_lt a.offset b.offset)))

-- what settles at a moment: the lines whose deadline has come, in order of deadline, place and offset
abbrev pub fires : ℕ → List (Option Timer) → List Fired
fires now lines = ordered comes_before (due now 0 lines)

-- the table after the first of them has settled
abbrev pub after_first : Option Fired → List (Option Timer) → List (Option Timer)
after_first None lines = lines
after_first (Some line) lines = with_timer settled_at_raw line.place line.offset lines
