-- How the program ends, and what it writes for words. This project's choice.
use Rattle.std.specs.Prelude.{◌≡◌, ◌⊎◌, ℕ, List, [], ◌∷◌, ◌++◌, Option, codes}
use Rattle.std.specs.Io.KnownBytes.{Appends}
use Rattle.gl_served.specs.CutLines.{WrotePart}
use Rattle.gl_served.specs.declared.ended.Ended.{Ended}
use Rattle.gl_served.specs.declared.ended.Ended.TheVariants.{AtEnd, ReadFault as EndedReadFault, WriteFault as EndedWriteFault, NoMemory as EndedNoMemory}
use Rattle.gpioserved.specs.declared.program.Status.{Status}
use Rattle.gpioserved.specs.declared.program.Status.TheVariants.{Ran, Usage, ReadFault, WriteFault, NoMemory}

-- the number that the process ends with
abbrev pub status_number : Status → ℕ
status_number Ran = 0
status_number Usage = 2
status_number ReadFault = 4
status_number WriteFault = 5
status_number NoMemory = 6

-- how serving ended
abbrev pub status_of : Ended → Status
status_of AtEnd = Ran
status_of EndedReadFault = ReadFault
status_of EndedWriteFault = WriteFault
status_of EndedNoMemory = NoMemory

-- the line that words which ask for nothing are answered
abbrev pub usage_line : List ℕ
usage_line = codes "usage" ++ 10 ∷ []

-- A text was written, and the program ends with this status; or a front of it was, and it ends with a fault of writing.
abbrev pub Says : Status → Status → List ℕ → Option (List ℕ) → Option (List ℕ) → Type 0
Says ends status text old new = ((ends ≡ status) × Appends old new text) ⊎ ((ends ≡ WriteFault) × WrotePart text old new)
