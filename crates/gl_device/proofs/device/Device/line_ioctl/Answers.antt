use Rattle.gl_device.proofs.device.Device.line_ioctl.Goals as goal

pub returns-clause-told : goal.returns-clause-told
returns-clause-told g c = rw (← c.self.view_is) c.line_ioctl.ensures.told
