-- What a call of the device came to, in the world that the core stood for.
use Rattle.std.specs.Prelude.{◌≡◌, ℕ, Bool, false, ◌&&◌, List, ◌++◌, length, drop}
use Rattle.gl_uapi.specs.Command.{command_of}
use Rattle.gl_model.specs.declared.device_call.DeviceCall.{DeviceCall}
use Rattle.gl_model.specs.declared.device_call.DeviceCall.TheVariants.{Once, Removing, Commanding}
use Rattle.gl_model.specs.declared.device_call.CommandIn.{CommandIn}
use Rattle.gl_model.specs.declared.reply.Reply.{Reply}
use Rattle.gl_model.specs.Fits.{FitsBuffer}
use Rattle.gl_model.specs.Outcome.{Outcome}
use Rattle.gl_model.specs.Parts.{in_ask, is_driver_asked}
use Rattle.gl_model.specs.World.{World}
use Rattle.gl_core.specs.Kept.{Kept, StandsFor}
use Rattle.gl_check.specs.One.{goes_on}

-- the core came to this outcome, with this reply; what it wrote stands at the start of the buffer
pub record Came (out : Outcome) (got : Reply) (core : Kept) (old new : List ℕ) : Type 0 where
  pub world : StandsFor core out.world
  pub reply : got ≡ out.reply
  pub wrote : new ≡ out.bytes ++ drop (length out.bytes) old

-- a removal writes into no buffer that counts
abbrev pub Wrote : DeviceCall → List ℕ → List ℕ → List ℕ → Type 0
Wrote (Once call) bytes old new = new ≡ bytes ++ drop (length bytes) old
Wrote (Removing removal) bytes old new = Unit {0}
Wrote (Commanding c) bytes old new = new ≡ bytes ++ drop (length bytes) old

pub record CameBy (call : DeviceCall) (out : Outcome) (got : Reply) (core : Kept) (old new : List ℕ) : Type 0 where
  pub world : StandsFor core out.world
  pub reply : got ≡ out.reply
  pub wrote : Wrote call out.bytes old new

-- a call may be made with this buffer; a removal's first call writes two bytes
abbrev pub FitsMaking : DeviceCall → List ℕ → Type 0
FitsMaking (Once call) out = FitsBuffer call out
FitsMaking (Removing removal) out = length out ≡ 2
FitsMaking (Commanding c) out = FitsBuffer (in_ask c) out

-- the driver is asked for a command that its guard let in
abbrev pub is_command_asked : World → CommandIn → Bool
is_command_asked w c = is_driver_asked c.of_chip c.len (command_of c.cmd) && goes_on w (in_ask c)

abbrev pub is_asked_inside : World → DeviceCall → Bool
is_asked_inside w (Once call) = false
is_asked_inside w (Removing removal) = false
is_asked_inside w (Commanding c) = is_command_asked w c
