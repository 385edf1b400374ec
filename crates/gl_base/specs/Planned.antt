-- The planned answers of a driver, which a port keeps: the plan names one call by its number among all the calls that go through
-- the port, counted from 1, and the accepted bits say which lines a driver debounces by itself. This is this project's choice.
use Rattle.std.specs.Prelude.{ℕ, ◌+◌, Bool, false, ◌==◌, if◌then◌else◌, Option, Some, None}
use Rattle.gl_base.specs.declared.op.Op.{Op}
use Rattle.gl_base.specs.declared.op.Op.TheVariants.{Apply, Get, Set}

-- the plan that the `nth` call from now on fails, where `asked` calls went through the port so far; 0 takes the plan away
abbrev pub planned_call : ℕ → ℕ → Option ℕ
planned_call asked nth = if nth == 0 then None else Some (asked + nth)

-- the plan names the call of this number
abbrev pub names_call : Option ℕ → ℕ → Bool
names_call None call = false
names_call (Some named) call = named == call

-- what a planned driver answers to an operation where it doesn't fail: the accepted bits to an Apply, else 0
abbrev pub bits_for : Op → ℕ → ℕ
bits_for (Get lines) bits = 0
bits_for (Set lines mask values) bits = 0
bits_for (Apply lines settings) bits = bits

-- what a planned driver answers to the call of this number: a failure, which is None, at the call that the plan names, else this
abbrev pub planned_answer : ℕ → Option ℕ → ℕ → Option ℕ
planned_answer answer plan call = if names_call plan call then None else Some answer
