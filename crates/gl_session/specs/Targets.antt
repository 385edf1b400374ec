-- Requests as targets of a map, four at most. This project's choice.
use Rattle.std.specs.Prelude.{◌≡◌, ◌<◌, ◌≤◌, ℕ, ◌-◌, ◌==◌, Bool, List, ◌++◌, length, replicate, take}
use Rattle.gl_base.specs.Lines.{IsLineCount}
use Rattle.gl_base.specs.Rows.{Each}
use Rattle.gl_base.specs.declared.limits.TheConstants.{PLACES}
use Rattle.gl_driver.specs.declared.map.Target.{Target}
use Rattle.gl_check.specs.Joining.{no_target}

-- a request at a place that a device has, with as many lines as one may have
pub record IsTarget (target : Target) : Type 0 where
  pub within : target.place < PLACES
  pub lines : IsLineCount target.lines.count

-- an array has room for four, and behind the first ones no targets
pub record AreTargets (count : ℕ) (targets : List Target) : Type 0 where
  pub few : count ≤ 4
  pub whole : length targets ≡ 4
  pub none_behind : targets ≡ take count targets ++ replicate (4 - count) no_target
  pub each : Each IsTarget (take count targets)

abbrev pub is_target_at : ℕ → Target → Bool
is_target_at place target = target.place == place
