use Rattle.gl_device.proofs.device.Device.chip_ioctl.Goals as goal

pub returns-clause-called : goal.returns-clause-called
returns-clause-called g c = rw (← c.self.view_is) c.chip_ioctl.ensures.called

pub returns-clause-told : goal.returns-clause-told
returns-clause-told g c = rw (← c.self.view_is) c.chip_ioctl.ensures.told
