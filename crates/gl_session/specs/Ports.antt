-- The ports of a run. This project's choice.
use Rattle.std.specs.Prelude.{◌≡◌, ◌<◌, ℕ, false, nat_lt, if◌then◌else◌, is_some, List, [], length, slice_get, take, Option, None, Some}
use Rattle.std.specs.List.{AllPass}
use Rattle.gl_base.specs.Rows.{Each}
use Rattle.gl_base.specs.declared.op.Op.{Op}
use Rattle.gl_driver.specs.Told.{Told}
use Rattle.gl_driver.specs.Maps.{FitsMap, map_at}
use Rattle.gl_driver.specs.declared.map.Map.{Map}
use Rattle.gl_script.specs.Cost.{has_aggregate}
use Rattle.gl_script.specs.Section.{SaidSection}
use Rattle.gl_chip.specs.Values.{OwnRelation}
use Rattle.gl_core.specs.Device.{OneEntry}
use Rattle.gl_check.specs.Joining.{Maps, maps, no_maps, taught}
use Rattle.gl_check.specs.Many.{actor_sections}

-- 17 ports, and all of them are there: that of the first actor, and one for each of 16 further ones
pub record AreAllThere {P : Type 0} (ports : List (Option P)) : Type 0 where
  pub count : length ports ≡ 17
  pub there : AllPass is_some ports

-- what a port tells, where it is there and can
abbrev pub told_by : {P : Type 0} → (P → Option Told) → Option P → Option Told
told_by told None = None
told_by told (Some port) = told port

-- how many actors a session has besides the first one, which alone carries out the sections of fewer than two
abbrev pub further_actors : List SaidSection → ℕ
further_actors sections = if nat_lt (length (actor_sections sections)) 2 then 0 else length (actor_sections sections)

-- ports of numbers above this one are as they were; so are those of numbers that no actor of a session has
abbrev pub StayAbove : {P : Type 0} → ℕ → List (Option P) → List (Option P) → Type 0
StayAbove top old new = (n : ℕ) → top < n → slice_get new n ≡ slice_get old n

abbrev pub OthersStay : {P : Type 0} → List SaidSection → List (Option P) → List (Option P) → Type 0
OthersStay sections old new = StayAbove (further_actors sections) old new

-- maps that a port may learn one after another: each may be kept, and is of a place that none before it is of
pub record AreMaps (kept : List Map) : Type 0 where
  pub fit : Each FitsMap kept
  pub apart : (n : ℕ) (map : Map) → slice_get kept n ≡ Some map → map_at map.place (take n kept) ≡ None

-- a port that took so many maps at first has learned just those that it keeps
abbrev pub HasLearnedThem : ℕ → Maps → Type 0
HasLearnedThem left m = m ≡ taught m.kept (no_maps left)

-- how many maps the port of a number takes, of ports by `left`; none where there is none
abbrev pub left_found : {P : Type 0} → (P → ℕ) → Option (Option P) → ℕ
left_found left None = 0
left_found left (Some None) = 0
left_found left (Some (Some port)) = left port

abbrev pub left_at : {P : Type 0} → (P → ℕ) → List (Option P) → ℕ → ℕ
left_at left ports n = left_found left (slice_get ports n)

-- `kept`: the maps that a port keeps. `left`: how many more it takes.
module _ {P : Type 0} (kept : P → List Map) (left : P → ℕ) where
  abbrev pub maps_of : P → Maps
  maps_of port = maps (kept port) (left port)

  -- the maps of the port of a number; none where there is none
  abbrev pub maps_found : Option (Option P) → Maps
  maps_found None = no_maps 0
  maps_found (Some None) = no_maps 0
  maps_found (Some (Some port)) = maps_of port

  abbrev pub maps_at : List (Option P) → ℕ → Maps
  maps_at ports n = maps_found (slice_get ports n)

  -- all ports that are there have these maps
  abbrev pub AllHave : Maps → List (Option P) → Type 0
  AllHave m ports = (n : ℕ) (port : P) → slice_get ports n ≡ Some (Some port) → maps_of port ≡ m

  -- no port has a map, and each takes as many as the first one
  abbrev pub TakeMaps : List (Option P) → Type 0
  TakeMaps ports = AllHave (no_maps (left_at left ports 0)) ports

  -- A port learned these maps, and is as it was but for them; none that isn't there did. `told`: what a port tells. `faults`: what it has counted.
  module _ (told : P → Option Told) (faults : P → ℕ) where
    pub record HasLearned (taught_maps : List Map) (old new : P) : Type 0 where
      pub maps_are : maps_of new ≡ taught taught_maps (maps_of old)
      pub told_same : told new ≡ told old
      pub faults_same : faults new ≡ faults old
      pub none_same : taught_maps ≡ [] → new ≡ old

    abbrev pub IsTaught : List Map → Option (Option P) → Option (Option P) → Type 0
    IsTaught taught_maps None new = new ≡ None
    IsTaught taught_maps (Some None) new = new ≡ Some None
    IsTaught taught_maps (Some (Some old)) new = (port : P) × (new ≡ Some (Some port)) × HasLearned taught_maps old port

    -- The session taught these maps: all ports that are there, the first one among them, have the maps that one with those of `m` has once it learned
    -- them. Those of numbers above `top` learned them and did nothing else, and are as they were where the session has no `aggregate`.
    pub record LearnAbove (top : ℕ) (sections : List SaidSection) (m : Maps) (old new : List (Option P)) : Type 0 where
      pub taught_maps : List Map
      pub all_have : AllHave (taught taught_maps m) new
      pub learned : (n : ℕ) → top < n → IsTaught taught_maps (slice_get old n) (slice_get new n)
      pub stay : has_aggregate sections ≡ false → StayAbove top old new

    -- The same of ports that had no map before, and those of numbers that no actor of the session has.
    abbrev pub OthersLearn : List SaidSection → List (Option P) → List (Option P) → Type 0
    OthersLearn sections old new = LearnAbove (further_actors sections) sections (no_maps (left_at left old 0)) old new

-- a driver that makes no entries of its own where it goes by no map
abbrev pub OwnsNothing : OwnRelation → Type 0
OwnsNothing Own = (op : Op) (own : List OneEntry) → Own None op own → own ≡ []
