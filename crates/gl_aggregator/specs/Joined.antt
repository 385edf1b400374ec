-- Which target has a line of an aggregated chip: its lines are those of its targets, joined in order.
use Rattle.std.specs.Prelude.{◌≡◌, ℕ, zero, suc, ◌+◌, List, [], ◌∷◌, ◌++◌, Option, Some, None, slice_get}
use Rattle.gl_driver.specs.declared.map.Target.{Target}
use Rattle.gl_aggregator.specs.Routes.{position_in}

-- a line of a target: the target's number among the map's, counted from 0, and the line's position in the target's request
pub record TargetLine : Type 0 where
  pub target : ℕ
  pub at : ℕ

-- so many lines of the target of a number, from a position on
abbrev pub target_lines : ℕ → ℕ → ℕ → List TargetLine
target_lines number at zero = []
target_lines number at (suc left) = record { target = number; at = at } ∷ target_lines number (at + 1) left

-- the lines of targets, joined in order; the first target has this number
abbrev pub joined_from : ℕ → List Target → List TargetLine
joined_from number [] = []
joined_from number (target ∷ targets) = target_lines number 0 target.lines.count ++ joined_from (number + 1) targets

abbrev pub joined : List Target → List TargetLine
joined targets = joined_from 0 targets

abbrev pub held_by : ℕ → Option ℕ → List TargetLine
held_by number None = []
held_by number (Some at) = record { target = number; at = at } ∷ []

-- the targets that have the line at an offset of the chip, each with its position there; those before the first have `base` lines
abbrev pub holders_from : ℕ → ℕ → ℕ → List Target → List TargetLine
holders_from offset number base [] = []
holders_from offset number base (target ∷ targets) =
    held_by number (position_in base target.lines.count offset) ++ holders_from offset (number + 1) (base + target.lines.count) targets

abbrev pub holders : ℕ → List Target → List TargetLine
holders offset targets = holders_from offset 0 0 targets

abbrev pub one_or_none : Option TargetLine → List TargetLine
one_or_none None = []
one_or_none (Some line) = line ∷ []

-- A line of the chip is in one target at most: the line at an offset is just the one at this offset of the targets' lines, joined in
-- order, and a line past them is in none.
pub record LinesAreInOneTarget : Type 0 where
  pub holder : (offset : ℕ) (targets : List Target) → holders offset targets ≡ one_or_none (slice_get (joined targets) offset)
