use Rattle.std.proofs.Common.{rules}
use Rattle.gl_device.proofs.device.Device.request.Goals as goal

pub returns-in-Ok-Some-clause-called : goal.returns-in-Ok-Some-clause-called
returns-in-Ok-Some-clause-called g c = rw (← c.request_bytes-bytes.ensures, ← c.in-Ok-Some.field-0-is) (λ no. let done = c.in-Ok-Some.ensures.called (search rules) in (done.0, done.2))

pub returns-in-Err-clause-called : goal.returns-in-Err-clause-called
returns-in-Err-clause-called g c = rw (← c.request_bytes-bytes.ensures) (λ no. let done = c.in-Err.ensures.called (λ e. no (cc)) in (done.0, done.2))
