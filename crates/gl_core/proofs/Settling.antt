-- Lines settle one by one: what is left to settle, of the world in which the first has settled, is all the others.
use Rattle.std.proofs.Common.{◌≡◌, ◌<◌, ◌*◌, ℕ, Bool, true, false, cond, List, [], ◌∷◌, length, drop, Option, Some, None, refl, sym, ap, ◌∙◌, subst, arith}
use Rattle.std.specs.Prelude.{slice_get}
use Rattle.gl_bank.specs.Level.{levels_at}
use Rattle.gl_bank.specs.declared.levels.Levels.{Levels}
use Rattle.gl_debounce.specs.Fire.{after_first, fires}
use Rattle.gl_debounce.specs.Timer.{settled_at_raw, with_timer}
use Rattle.gl_debounce.specs.declared.timer.Fired.{Fired}
use Rattle.gl_debounce.specs.declared.timer.Timer.{Timer}
use Rattle.gl_debounce.proofs.GoingOn.{goes_on}
use Rattle.gl_model.specs.Clock.{fire, settle, settle_each}
use Rattle.gl_model.specs.Edges.{edge, edge_for, input_holder}
use Rattle.gl_model.specs.Places.{place_at}
use Rattle.gl_model.specs.World.{World}
use Rattle.gl_core.specs.Kept.{Kept, StandsFor}
use Rattle.gl_base.specs.declared.limits.TheConstants.{LINES_MAX, PLACES}

-- what settles at the clock of a world
abbrev firing : World → List Fired
firing w = fires w.mono w.timers

edge_for-firing : (number : Option ℕ) (offset : ℕ) (line : Levels) (up : Bool) (moment : ℕ) (w : World) → firing (edge_for number offset line up moment w) ≡ firing w
edge_for-firing None offset line up moment w = refl
edge_for-firing (Some fd) offset line up moment w = refl

-- the world in which a line has settled, before its edge
abbrev without_deadline : Fired → World → World
without_deadline line w = record w { timers = with_timer settled_at_raw line.place line.offset w.timers }

settle-firing : (line : Fired) (w : World) → firing (settle line w) ≡ fires w.mono (after_first (Some line) w.timers)
settle-firing line w =
    let v : World = without_deadline line w in
    elim line.changed as (λ b. firing (cond b (edge line.place line.offset line.level line.deadline v) v) ≡ firing v) [
      | true ↦ edge_for-firing (input_holder (place_at v line.place) line.offset) line.offset (levels_at (place_at v line.place).bank line.offset) line.level line.deadline v
      | false ↦ refl
    ]

pub fires_on : (now : ℕ) (timers : List (Option Timer)) (line : Fired) → length timers ≡ PLACES * LINES_MAX → Some line ≡ slice_get (fires now timers) 0
    → fires now (after_first (Some line) timers) ≡ drop 1 (fires now timers)
fires_on now timers line whole first = ap (λ (o : Option Fired). fires now (after_first o timers)) first ∙ goes_on now timers whole

first_settles : (lines : List Fired) (line : Fired) (w : World) → Some line ≡ slice_get lines 0 → settle_each (drop 1 lines) (settle line w) ≡ settle_each lines w
first_settles [] line w first = cc
first_settles (other ∷ lines) line w first = let same : line ≡ other = cc in ap (λ (x : Fired). settle_each lines (settle x w)) same

pub fire_more : (w : World) (line : Fired) → length w.timers ≡ PLACES * LINES_MAX → Some line ≡ slice_get (fires w.mono w.timers) 0 → fire (settle line w) ≡ fire w
fire_more w line whole first =
    ap (λ (lines : List Fired). settle_each lines (settle line w)) (settle-firing line w ∙ fires_on w.mono w.timers line whole first)
    ∙ first_settles (firing w) line w first

none_settles : (lines : List Fired) (w : World) → slice_get lines 0 ≡ None → settle_each lines w ≡ w
none_settles [] w none = refl
none_settles (line ∷ lines) w none = cc

pub fire_end : (w : World) → slice_get (fires w.mono w.timers) 0 ≡ None → fire w ≡ w
fire_end w none = none_settles (firing w) w none

shorter : (lines : List Fired) (line : Fired) → Some line ≡ slice_get lines 0 → length (drop 1 lines) < length lines
shorter [] line first = cc
shorter (other ∷ lines) line first = omega arith

pub fewer : (now : ℕ) (timers : List (Option Timer)) (line : Fired) → length timers ≡ PLACES * LINES_MAX → Some line ≡ slice_get (fires now timers) 0
    → length (fires now (after_first (Some line) timers)) < length (fires now timers)
fewer now timers line whole first = subst (λ (lines : List Fired). length lines < length (fires now timers)) (sym (fires_on now timers line whole first)) (shorter (fires now timers) line first)

-- what the core stands for

pub timers_stand : (k : Kept) (w : World) (f : List (Option Timer) → List (Option Timer)) → StandsFor k w → StandsFor (record k { timers = f k.timers }) (record w { timers = f w.timers })
timers_stand k w f stands = record { kept_so = ap (λ (k : Kept). record k { timers = f k.timers }) stands.kept_so; sound_requests = stands.sound_requests }

pub clocks_stand : (k : Kept) (w : World) (mono real : ℕ) → StandsFor k w → StandsFor (record k { mono = mono; real = real }) (record w { mono = mono; real = real })
clocks_stand k w mono real stands = record { kept_so = ap (λ (k : Kept). record k { mono = mono; real = real }) stands.kept_so; sound_requests = stands.sound_requests }
