-- What a planned driver answers next through a port, and what its port is after that answer. This project's choice.
use Rattle.std.specs.Prelude.{ℕ, Bool, if◌then◌else◌, Option, None}
use Rattle.gl_base.specs.Count.{counted_up}
use Rattle.gl_base.specs.Planned.{planned_answer}
use Rattle.gl_check.specs.One.{PlannedPort}

-- a new port: no call, no plan and accepted bits 0
abbrev pub unplanned : PlannedPort
unplanned = record { calls = 0; plan = None; bits = 0 }

-- what the driver answers next, where it configures lines, and else
abbrev pub next_answer : Bool → PlannedPort → Option ℕ
next_answer configures port = planned_answer (if configures then port.bits else 0) port.plan (counted_up port.calls)

-- after an answer more
abbrev pub after_answer : PlannedPort → PlannedPort
after_answer port = record { calls = counted_up port.calls; plan = port.plan; bits = port.bits }
