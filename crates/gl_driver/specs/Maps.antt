-- The maps that a port keeps. A chip with a map stands for lines of other chips, as one of the kernel's gpio-aggregator does; how its lines
-- go to its targets is this project's choice.
use Rattle.std.specs.Prelude.{◌≢◌, ◌<◌, ◌≤◌, ℕ, zero, suc, Bool, ◌==◌, List, [], ◌∷◌, ◌++◌, take, Option, None, find}
use Rattle.gl_base.specs.Lines.{IsLineCount}
use Rattle.gl_base.specs.Rows.{Each}
use Rattle.gl_base.specs.declared.limits.TheConstants.{PLACES}
use Rattle.gl_driver.specs.declared.map.Map.{Map}
use Rattle.gl_driver.specs.declared.map.Target.{Target}

abbrev pub is_map_of : ℕ → Map → Bool
is_map_of place map = map.place == place

-- the map of a place, if it has one
abbrev pub map_at : ℕ → List Map → Option Map
map_at place maps = find (is_map_of place) maps

-- the map by which a driver goes at a place that makes so many entries of its own at most; one that makes none goes by no map
abbrev pub map_for : ℕ → ℕ → List Map → Option Map
map_for zero place maps = None
map_for (suc entries) place maps = map_at place maps

-- the maps of a port that is to keep one more: one that takes none more keeps what it has
abbrev pub with_map : ℕ → Map → List Map → List Map
with_map zero map maps = maps
with_map (suc left) map maps = maps ++ map ∷ []

-- and how many more it takes then
abbrev pub left_behind : ℕ → ℕ
left_behind zero = 0
left_behind (suc left) = left

-- the targets that a map has
abbrev pub targets_of : Map → List Target
targets_of map = take map.count map.targets

-- a target that may stand for lines of the chip at a place
pub record FitsTarget (place : ℕ) (target : Target) : Type 0 where
  pub within : target.place < PLACES
  pub apart : target.place ≢ place
  pub lines : IsLineCount target.lines.count

pub record FitsMap (map : Map) : Type 0 where
  pub some : 1 ≤ map.count
  pub few : map.count ≤ 4
  pub targets : Each (FitsTarget map.place) (targets_of map)
