use Rattle.gl_device.proofs.device.Device.live.Goals as goal

pub returns-clause-removed : goal.returns-clause-removed
returns-clause-removed g c = rw (← c.self.view_is) c.live.ensures.removed
