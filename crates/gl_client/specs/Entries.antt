-- How many entries of a history a program makes, those of closings among them. This project's choice.
use Rattle.std.specs.Prelude.{◌≡◌, ℕ, ◌-◌, ◌≤◌, nat_eq, if◌then◌else◌, None}
use Rattle.gl_base.specs.Operation.{refusal}
use Rattle.gl_base.specs.declared.command.TheConstants.{GET_LINE, LINE_SET_CONFIG, LINE_GET_VALUES, LINE_SET_VALUES}
use Rattle.gl_base.specs.declared.operation.Do.{Do}
use Rattle.gl_base.specs.declared.operation.Do.TheVariants.{Unplug, Live, Ioctl, Close, Plan, Accept}
use Rattle.gl_base.specs.declared.operation.Got.{Got}
use Rattle.gl_client.specs.Program.{Program, done, print, ask}

-- the entries of a command: one, or an ask and a tell
abbrev pub command_made : ℕ → ℕ
command_made command =
    if nat_eq command GET_LINE then 2
    else if nat_eq command LINE_SET_CONFIG then 2
    else if nat_eq command LINE_GET_VALUES then 2
    else if nat_eq command LINE_SET_VALUES then 2
    else 1

-- the entries of an operation
abbrev pub entries_made : Do → ℕ
entries_made (Unplug place) = 2
entries_made (Live device up) = 2
entries_made (Ioctl slot command len bytes made) = command_made command
entries_made (Plan nth) = 0
entries_made (Accept bits) = 0
entries_made _ = 1

-- a closing is not refused; no device here refuses one
abbrev pub IsKept : Do → Got → Type 0
IsKept (Close slot) got = refusal got ≡ None
IsKept _ got = Unit {0}

-- a program makes at most so many entries, whatever it is answered
abbrev pub EntriesAtMost : {A : Type 0} → ℕ → Program A → Type 0
EntriesAtMost n (done value) = Unit {0}
EntriesAtMost n (print text p) = EntriesAtMost n p
EntriesAtMost n (ask what p) = (entries_made what ≤ n) × ((got : Got) → IsKept what got → EntriesAtMost (n - entries_made what) (p got))

-- A program makes at most so many entries, whatever it is answered; and where it gives a value, what is left of their number is
-- at least as much as `wants` says of the value.
abbrev pub EntriesLeave : {A : Type 0} → (A → ℕ) → ℕ → Program A → Type 0
EntriesLeave wants n (done value) = wants value ≤ n
EntriesLeave wants n (print text p) = EntriesLeave wants n p
EntriesLeave wants n (ask what p) = (entries_made what ≤ n) × ((got : Got) → IsKept what got → EntriesLeave wants (n - entries_made what) (p got))
