-- What one call of the machine is answered as a call of the device, how much it writes, and what the actor learns of places: by the
-- guard that it needs, if it needs one.
use Rattle.std.specs.Prelude.{◌≡◌, ◌⊎◌, ℕ, true, List, ◌++◌, length, drop, Option, Some, None}
use Rattle.gl_gate.specs.Calls.{KnowsTheSame}
use Rattle.gl_model.specs.declared.call.Call.{Call}
use Rattle.gl_model.specs.declared.device_call.DeviceCall.TheVariants.{Once}
use Rattle.gl_model.specs.declared.reply.Reply.{Reply}
use Rattle.gl_model.specs.Parts.{is_poll}
use Rattle.gl_model.specs.Replies.{has_form}
use Rattle.gl_model.specs.Step.{guard_reply}
use Rattle.gl_model.specs.Written.{bytes_written}
use Rattle.gl_chip.specs.Values.{OneView}

-- in the call's form; or, behind a guard, as every call is at a closed one
abbrev pub Answers : Option ℕ → Call → Reply → Type 0
Answers None call reply = has_form call reply ≡ true
Answers (Some place) call reply = (reply ≡ guard_reply (is_poll (Once call))) ⊎ (has_form call reply ≡ true)

-- behind a guard, where it isn't closed, as many bytes as the reply tells
abbrev pub WroteBy : Option ℕ → Call → List ℕ → List ℕ → Reply → Type 0
WroteBy None call old new reply = new ≡ old
WroteBy (Some place) call old new reply = (bytes : List ℕ) × (new ≡ bytes ++ drop (length bytes) old)
    × ((reply ≡ guard_reply (is_poll (Once call))) ⊎ (length bytes ≡ bytes_written call reply))

-- without a guard the actor learns nothing of any place
abbrev pub KnowsBy : Option ℕ → OneView → OneView → Type 0
KnowsBy None v w = KnowsTheSame v w
KnowsBy (Some place) v w = Unit {0}
