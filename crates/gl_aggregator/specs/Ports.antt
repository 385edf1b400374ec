-- What the port of an aggregator keeps, and what it tells: the calls that went through it, and of the port behind all else.
use Rattle.std.specs.Prelude.{◌≡◌, ℕ, List, Option, Some, None}
use Rattle.gl_base.specs.Count.{counted_up}
use Rattle.gl_base.specs.declared.op.Op.{Op}
use Rattle.gl_driver.specs.Told.{Told, faults_after}
use Rattle.gl_driver.specs.declared.map.Map.{Map}
use Rattle.gl_driver.specs.declared.op.DriverCall.{DriverCall}
use Rattle.gl_aggregator.specs.declared.tally.Tally.{Tally}

-- the port behind, what is counted of the calls, and the maps
pub record AggPortValue (P : Type 0) : Type 0 where
  pub inner : P
  pub tally : Tally
  pub maps : List Map

-- what a port tells through which so many calls went, and last this one, by what the port behind it tells: the plan, what it counts, and the
-- accepted bits are the other's
abbrev pub told_over : ℕ → Option DriverCall → Option Told → Option Told
told_over calls last None = None
told_over calls last (Some t) = Some (record t { calls = calls; last = last })

-- one more call went through the port
abbrev pub with_one_more : Op → Option ℕ → Tally → Tally
with_one_more op answer tally = record {
  calls = counted_up tally.calls;
  last = Some (record { op = op; answer = answer });
  faults = faults_after answer tally.faults;
}

-- the same but for the calls that went through it
abbrev pub SameBehind : Option Told → Option Told → Type 0
SameBehind inner told = (calls : ℕ) (last : Option DriverCall) → told_over calls last inner ≡ told_over calls last told
