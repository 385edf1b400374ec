-- What a planned driver answers next to a call of the device, and its port after that.
use Rattle.std.specs.Prelude.{ℕ, Bool, true, false, Option}
use Rattle.gl_uapi.specs.Command.{command_of}
use Rattle.gl_model.specs.declared.device_call.DeviceCall.{DeviceCall}
use Rattle.gl_model.specs.declared.device_call.DeviceCall.TheVariants.{Once, Removing, Commanding}
use Rattle.gl_asking.specs.Driving.{applies}
use Rattle.gl_check.specs.One.{PlannedPort}
use Rattle.gl_check.specs.Ports.{after_answer, next_answer}

-- what it answers next to a call of the device; where it isn't asked for the call no answer counts
abbrev pub next_to : DeviceCall → PlannedPort → Option ℕ
next_to (Once call) port = next_answer false port
next_to (Removing removal) port = next_answer false port
next_to (Commanding c) port = next_answer (applies (command_of c.cmd)) port

-- after an answer, where there was one
abbrev pub after_asking : Bool → PlannedPort → PlannedPort
after_asking false port = port
after_asking true port = after_answer port
