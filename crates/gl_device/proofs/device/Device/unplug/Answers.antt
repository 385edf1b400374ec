use Rattle.gl_device.proofs.device.Device.unplug.Goals as goal

pub returns-clause-called : goal.returns-clause-called
returns-clause-called g c = rw (← c.self.view_is) c.unplug.ensures.called
