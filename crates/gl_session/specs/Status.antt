-- The statuses of a run and the numbers that end the process. This project's choice.
use Rattle.std.specs.Prelude.{ℕ}
use Rattle.gl_session.specs.declared.status.Status.{Status}
use Rattle.gl_session.specs.declared.status.Status.TheVariants.{Ran, Usage, Refused, ReadFault, WriteFault, NoMemory, No}

-- the number of a status
abbrev pub status_number : Status → ℕ
status_number Ran = 0
status_number Usage = 2
status_number Refused = 3
status_number ReadFault = 4
status_number WriteFault = 5
status_number NoMemory = 6
status_number No = 7
