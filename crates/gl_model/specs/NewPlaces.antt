-- A new chip takes a place at which no request is, so that it stands at another place than each line that is requested. That a place is used once in a machine's
-- life is this project's choice.
use Rattle.std.specs.Prelude.{◌≡◌, ◌≢◌, ℕ, List, Some}
use Rattle.gl_base.specs.declared.kind.Kind.{Kind}
use Rattle.gl_model.specs.Machine.{Always, reply_of, world_of}
use Rattle.gl_model.specs.World.{World, Request, request_at}
use Rattle.gl_model.specs.declared.call.Call.TheVariants.{Probe}
use Rattle.gl_model.specs.declared.reply.Reply.TheVariants.{Number}

-- what a Probe is answered is the place of no request
abbrev pub ProbeTakesFreePlace : World → Type 0
ProbeTakesFreePlace w = (actor : ℕ) (label : List ℕ) (lines : ℕ) (kind : Kind) (place : ℕ) → reply_of w actor (Probe label lines kind) ≡ Number place
    → (fd : ℕ) (request : Request) → request_at w.requests fd ≡ Some request → request.place ≢ place

-- so it is in each world that a legal history leads to
abbrev pub ProbesTakeFreePlaces : {K : Type 0} → (K → World → Type 0) → Type 0
ProbesTakeFreePlaces stands_for = Always stands_for (λ history. ProbeTakesFreePlace (world_of stands_for history))
