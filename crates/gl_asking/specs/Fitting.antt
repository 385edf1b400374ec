-- Which calls of the device may be made: their arguments are in range.
use Rattle.std.specs.Prelude.{◌≡◌, ◌<◌, true}
use Rattle.gl_base.specs.declared.limits.TheConstants.{PLACES}
use Rattle.gl_model.specs.declared.device_call.DeviceCall.{DeviceCall}
use Rattle.gl_model.specs.declared.device_call.DeviceCall.TheVariants.{Once, Removing, Commanding}
use Rattle.gl_model.specs.declared.device_call.RemovalOf.TheVariants.{OfChip, OfDevice}
use Rattle.gl_model.specs.Fits.{FitsBytes, FitsCall}
use Rattle.gl_model.specs.Parts.{is_single}
use Rattle.gl_asking.specs.declared.kinds.Asking.{Asking}
use Rattle.gl_asking.specs.declared.kinds.Asking.TheVariants.{Calls, Plans, Accepts, Refuses}

-- one call of the machine is whole by itself; of a command, the bytes past the buffer's length are zero
abbrev pub FitsDevice : DeviceCall → Type 0
FitsDevice (Once call) = (is_single call ≡ true) × FitsCall call
FitsDevice (Removing (OfChip place)) = place < PLACES
FitsDevice (Removing (OfDevice device)) = Unit {0}
FitsDevice (Commanding c) = (c.place < PLACES) × FitsBytes c.len c.bytes

-- what an operation is may be made, where it is a call
abbrev pub FitsAsking : Asking → Type 0
FitsAsking (Calls call) = FitsDevice call
FitsAsking (Plans nth) = Unit {0}
FitsAsking (Accepts bits) = Unit {0}
FitsAsking (Refuses errno) = Unit {0}
