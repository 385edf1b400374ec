-- How many entries of a history a program makes at most. The closing of a file is counted where the file is opened. This
-- project's choice.
use Rattle.std.specs.Prelude.{ℕ, ◌-◌, ◌≤◌, nat_eq, if◌then◌else◌}
use Rattle.gl_base.specs.declared.command.TheConstants.{GET_LINE, LINE_SET_CONFIG, LINE_GET_VALUES, LINE_SET_VALUES}
use Rattle.gl_base.specs.declared.operation.Do.{Do}
use Rattle.gl_base.specs.declared.operation.Do.TheVariants.{Unplug, Live, OpenChip, Ioctl, Close, Plan, Accept}
use Rattle.gl_base.specs.declared.operation.Got.{Got}
use Rattle.gl_client.specs.Program.{Program, done, print, ask}

-- the entries of a command: one, or an ask and a tell; and for GET_LINE the closing of the request that it makes
abbrev pub command_entries : ℕ → ℕ
command_entries command =
    if nat_eq command GET_LINE then 3
    else if nat_eq command LINE_SET_CONFIG then 2
    else if nat_eq command LINE_GET_VALUES then 2
    else if nat_eq command LINE_SET_VALUES then 2
    else 1

-- the entries of an operation
abbrev pub entries_of : Do → ℕ
entries_of (Unplug place) = 2
entries_of (Live device up) = 2
entries_of (OpenChip slot word) = 2
entries_of (Ioctl slot command len bytes made) = command_entries command
entries_of (Close slot) = 0
entries_of (Plan nth) = 0
entries_of (Accept bits) = 0
entries_of _ = 1

-- a program's operations make at most so many entries, whatever it is answered
abbrev pub CostsAtMost : {A : Type 0} → ℕ → Program A → Type 0
CostsAtMost n (done value) = Unit {0}
CostsAtMost n (print text p) = CostsAtMost n p
CostsAtMost n (ask what p) = (entries_of what ≤ n) × ((got : Got) → CostsAtMost (n - entries_of what) (p got))
