-- The clocks, and the debounced lines that settle when they go on. From the kernel's document on the GPIO character device
-- (debouncing); that lines settle in order of deadline, place and offset is this project's choice.
use Rattle.std.specs.Prelude.{ℕ, ◌^◌, ◌||◌, nat_le, nat_lt, if◌then◌else◌, List, [], ◌∷◌, Option}
use Rattle.gl_base.specs.Refusals.{first_of, when}
use Rattle.gl_base.specs.declared.errno.Errno.{Errno}
use Rattle.gl_base.specs.declared.errno.Errno.TheVariants.{Inval}
use Rattle.gl_debounce.specs.Fire.{fires}
use Rattle.gl_debounce.specs.Timer.{settled_at_raw, with_timer}
use Rattle.gl_debounce.specs.declared.timer.Fired.{Fired}
use Rattle.gl_model.specs.Edges.{edge}
use Rattle.gl_model.specs.Outcome.{Outcome, done, refused_or}
use Rattle.gl_model.specs.World.{World}

-- A line settles at its raw level, and no deadline of it runs. Where that is another level than it had settled at before, it
-- is an edge, at the moment of the deadline.
abbrev pub settle : Fired → World → World
settle line w =
    let settled = record w { timers = with_timer settled_at_raw line.place line.offset w.timers } in
    if line.changed then edge line.place line.offset line.level line.deadline settled else settled

-- lines settle, one after another
abbrev pub settle_each : List Fired → World → World
settle_each [] w = w
settle_each (line ∷ lines) w = settle_each lines (settle line w)

-- what settles now: each line whose deadline has come, in order of deadline, place and offset
abbrev pub fire : World → World
fire w = settle_each (fires w.mono w.timers) w

-- why new clocks are refused: the monotonic one went back, or one of them isn't below 2^63
abbrev pub clock_refusal : ℕ → ℕ → World → Option Errno
clock_refusal mono real w = first_of
    (when (nat_lt mono w.mono) Inval
    ∷ when (nat_le (2 ^ 63) mono || nat_le (2 ^ 63) real) Inval
    ∷ [])

-- Tick sets both clocks, and then lines settle.
abbrev pub tick : ℕ → ℕ → World → Outcome
tick mono real w = refused_or (clock_refusal mono real w) w (done (fire (record w { mono = mono; real = real })))
