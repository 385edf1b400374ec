-- The last call of a removal needs nothing of its gift, nor of its buffer.
use Rattle.std.proofs.Common.{ℕ, List}
use Rattle.gl_model.specs.Entries.{last_call}
use Rattle.gl_model.specs.Fits.{Fits, FitsCall}
use Rattle.gl_model.specs.Parts.{first_call}
use Rattle.gl_model.specs.declared.device_call.RemovalOf.{RemovalOf}
use Rattle.gl_model.specs.declared.device_call.RemovalOf.TheVariants.{OfChip, OfDevice}
use Rattle.gl_model.specs.declared.gift.Gift.{Gift}

pub last_call_fits : (removal : RemovalOf) (gift : Gift) (out : List ℕ) → FitsCall (last_call (first_call removal)) → Fits (last_call (first_call removal)) gift out
last_call_fits (OfChip place) gift out fits = record { fits_call = fits; brings = tt; buffer_fits = tt }
last_call_fits (OfDevice device) gift out fits = record { fits_call = fits; brings = tt; buffer_fits = tt }
