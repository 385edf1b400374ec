use Rattle.gl_model.specs.declared.device_call.DeviceCall.TheVariants.{Once}
use Rattle.gl_chip.proofs.WholeCalls.{called_not_full}
use Rattle.gl_chip.proofs.gpio.Gpio.one_call.Goals as goal

pub carry-requires-clause-fits : goal.carry-requires-clause-fits
carry-requires-clause-fits g c κs within = record { device = (c.requires.single, c.requires.fits.fits_call); file = tt; buffer = c.requires.fits.buffer_fits }

pub carry-requires-clause-brings : goal.carry-requires-clause-brings
carry-requires-clause-brings g c κs within = c.requires.fits.brings

pub returns-in-Ok-clause-port : goal.returns-in-Ok-clause-port
returns-in-Ok-clause-port g c = c.in-Ok.ensures.done.2.1

pub returns-in-Ok-clause-called : goal.returns-in-Ok-clause-called
returns-in-Ok-clause-called g c = let h = c.in-Ok.ensures.done in (h.0, h.1, h.2.0)

pub returns-in-Ok-clause-form : goal.returns-in-Ok-clause-form
returns-in-Ok-clause-form g c = c.in-Ok.ensures.form

pub returns-in-Ok-clause-lengths : goal.returns-in-Ok-clause-lengths
returns-in-Ok-clause-lengths g c = c.in-Ok.ensures.lengths

pub returns-in-Ok-clause-not_full : goal.returns-in-Ok-clause-not_full
returns-in-Ok-clause-not_full g c = let h = c.in-Ok.ensures.done in called_not_full 0 c.args.actor.now.pass.view c.carry.new.actor.pass.view (Once c.args.call.now) c.in-Ok.answered.reply h.0 h.2.0

pub returns-in-Err-clause-port : goal.returns-in-Err-clause-port
returns-in-Err-clause-port g c = c.in-Err.ensures.full.2

pub returns-in-Err-clause-full : goal.returns-in-Err-clause-full
returns-in-Err-clause-full g c = let h = c.in-Err.ensures.full in (h.0, h.1, h.3)
