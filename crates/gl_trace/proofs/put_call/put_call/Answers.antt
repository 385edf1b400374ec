use Rattle.gl_trace.proofs.put_call.put_call.Goals as goal

pub returns-in-Ioctl-clause-ok : goal.returns-in-Ioctl-clause-ok
returns-in-Ioctl-clause-ok c = rw c.in-Ioctl.is c.put_command.ensures.ok
