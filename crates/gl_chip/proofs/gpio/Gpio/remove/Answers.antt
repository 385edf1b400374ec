use Rattle.gl_chip.proofs.gpio.Gpio.remove.Goals as goal

pub carry-requires-clause-fits : goal.carry-requires-clause-fits
carry-requires-clause-fits g c κs within = record { device = c.requires.fits; file = tt; buffer = tt }

pub returns-in-Ok-clause-port : goal.returns-in-Ok-clause-port
returns-in-Ok-clause-port g c = c.in-Ok.ensures.done.2.2

pub returns-in-Ok-clause-called : goal.returns-in-Ok-clause-called
returns-in-Ok-clause-called g c = let h = c.in-Ok.ensures.done in (h.0, h.2.0, h.2.1)

pub returns-in-Ok-clause-ended : goal.returns-in-Ok-clause-ended
returns-in-Ok-clause-ended g c = c.in-Ok.ensures.ended.0

pub returns-in-Ok-clause-gone : goal.returns-in-Ok-clause-gone
returns-in-Ok-clause-gone g c = c.in-Ok.ensures.ended.1

pub returns-clause-port : goal.returns-clause-port
returns-clause-port g c = c.in-Err.ensures.full.2

pub returns-clause-full : goal.returns-clause-full
returns-clause-full g c = let h = c.in-Err.ensures.full in (h.0, h.3)
