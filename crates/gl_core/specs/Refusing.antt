-- What a refused call leaves of the core.
use Rattle.std.specs.Prelude.{◌≡◌, ℕ, false, List}
use Rattle.gl_model.specs.Refusing.{IsRefused, is_failed_claim}
use Rattle.gl_model.specs.Step.{step}
use Rattle.gl_model.specs.World.{World}
use Rattle.gl_model.specs.declared.call.Call.{Call}
use Rattle.gl_model.specs.declared.reply.Reply.{Reply}
use Rattle.gl_core.specs.Kept.{Kept, StandsFor}
use Rattle.gl_core.specs.Steps.{StepsInto}

-- A call that does what the step does, as each call of the core does, and is refused leaves each table as it was, and the buffer. The
-- one exception is a request of lines that is told and refused with EIO.
abbrev pub RefusalsLeaveTheCore : Type 0
RefusalsLeaveTheCore = (old new : Kept) (actor : ℕ) (call : Call) (reply : Reply) (before after : List ℕ)
    → StepsInto (λ w. step w actor call) old new reply before after → (w : World) → StandsFor old w
    → is_failed_claim call reply ≡ false → IsRefused reply → (new ≡ old) × (after ≡ before)
