-- What a port tells, and what calls make of it.
use Rattle.std.specs.Prelude.{◌≡◌, ℕ, zero, suc, Bool, true, if◌then◌else◌, List, [], ◌∷◌, Option, Some, None, IfSome, Result, Ok, Err}
use Rattle.gl_base.specs.Count.{counted_up}
use Rattle.gl_base.specs.Planned.{bits_for, planned_answer, planned_call, names_call}
use Rattle.gl_base.specs.declared.op.Op.{Op}
use Rattle.gl_driver.specs.declared.map.Map.{Map}
use Rattle.gl_driver.specs.declared.op.DriverCall.{DriverCall}
use Rattle.gl_driver.specs.declared.op.DriverFault.{DriverFault}

-- how many driver calls went through the port, how many calls its plan counts, the call that the plan names by its number among these, the
-- accepted bits, and the last call
pub record Told : Type 0 where
  pub calls : ℕ
  pub counted : ℕ
  pub plan : Option ℕ
  pub bits : ℕ
  pub last : Option DriverCall

-- a new port tells no call, no plan and accepted bits 0
abbrev pub new_port : Told
new_port = record { calls = 0; counted = 0; plan = None; bits = 0; last = None }

-- the `nth` call from now on is to fail
abbrev pub with_plan : ℕ → Option Told → Option Told
with_plan nth (Some t) = Some (record t { plan = planned_call t.counted nth })
with_plan nth None = None

-- from now on these are the accepted bits
abbrev pub with_bits : ℕ → Option Told → Option Told
with_bits bits (Some t) = Some (record t { bits = bits })
with_bits bits None = None

-- so many more are counted
abbrev pub counted_on : ℕ → ℕ → ℕ
counted_on zero count = count
counted_on (suc more) count = counted_on more (counted_up count)

-- one more call went through it, for which its plan counts so many
abbrev pub with_call_counting : ℕ → Op → Option ℕ → Option Told → Option Told
with_call_counting more op answer (Some t) = Some (record {
  calls = counted_up t.calls;
  counted = counted_on more t.counted;
  plan = t.plan;
  bits = t.bits;
  last = Some (record { op = op; answer = answer });
})
with_call_counting more op answer None = None

-- one more call went through it, which is one for its plan
abbrev pub with_call : Op → Option ℕ → Option Told → Option Told
with_call op answer told = with_call_counting 1 op answer told

-- how many calls the plan counts for a call: one at a place without a map, and at one with a map each call behind it, which was told
abbrev pub counts_for : Option Map → ℕ → ℕ
counts_for None tells = 1
counts_for (Some map) tells = tells

-- what a driver answered, or nothing where it failed
abbrev pub answer_of : Result ℕ DriverFault → Option ℕ
answer_of (Ok bits) = Some bits
answer_of (Err fault) = None

-- what comes of an answer where a driver fails as its port plans: a failure at the call that the plan names, else this answer
abbrev pub unless_planned : Option ℕ → Option Told → Option ℕ
unless_planned answer (Some t) = if names_call t.plan (counted_up t.counted) then None else answer
unless_planned answer None = answer

-- what a planned driver answers to an operation through a port that told this: a failure at just the call that the plan names, else the
-- accepted bits to an Apply, and 0 to a Get and a Set
abbrev pub planned_for : Op → Told → Option ℕ
planned_for op t = planned_answer (bits_for op t.bits) t.plan (counted_up t.counted)

-- a failure is counted
abbrev pub faults_after : Option ℕ → ℕ → ℕ
faults_after (Some bits) faults = faults
faults_after None faults = counted_up faults

-- What becomes of a port by the answers that a call told: none, or one, to just what the driver is asked for the call. A planned driver
-- answers as the port plans and accepts.
abbrev pub PortAfter : Bool → Option Op → List (Option ℕ) → Option Told → Option Told → Type 0
PortAfter is_planned op [] before after = after ≡ before
PortAfter is_planned op (answer ∷ answers) before after =
    (asked : Op) × (op ≡ Some asked) × (after ≡ with_call asked answer before)
    × (is_planned ≡ true → IfSome before (λ told. answer ≡ planned_for asked told))
