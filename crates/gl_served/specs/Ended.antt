-- The numbers by which the process tells how serving ended. This project's choice.
use Rattle.std.specs.Prelude.{ℕ}
use Rattle.gl_served.specs.declared.ended.Ended.{Ended}
use Rattle.gl_served.specs.declared.ended.Ended.TheVariants.{AtEnd, ReadFault, WriteFault, NoMemory}

abbrev pub ended_number : Ended → ℕ
ended_number AtEnd = 0
ended_number ReadFault = 4
ended_number WriteFault = 5
ended_number NoMemory = 6
