-- What is true of the requests of each world that calls lead to.
use Rattle.std.specs.Prelude.{ℕ, ◌≤◌, length}
use Rattle.gl_base.specs.Rows.{Each}
use Rattle.gl_base.specs.declared.limits.TheConstants.{LINES_PER_REQUEST}
use Rattle.gl_ring.specs.Edges.{HasDifferentLines}
use Rattle.gl_model.specs.declared.call.Call.{Call}
use Rattle.gl_model.specs.Step.{step}
use Rattle.gl_model.specs.World.{World, Request, opening}

-- what is true of each request: no more of its edges were taken or dropped than there are, it has at most 64 lines, and no
-- line stands in it twice
pub record IsSoundRequest (request : Request) : Type 0 where
  pub in_order : request.past.next ≤ length request.past.all
  pub at_most : request.lines.count ≤ LINES_PER_REQUEST
  pub lines_differ : HasDifferentLines request.lines

-- each request of a world is such
abbrev pub HasSoundRequests : World → Type 0
HasSoundRequests w = Each IsSoundRequest w.requests

-- that is true of the opening world, and each call keeps it true
pub record RequestsStaySound : Type 0 where
  pub opens : HasSoundRequests opening
  pub stay : (w : World) (actor : ℕ) (call : Call) → HasSoundRequests w → HasSoundRequests (step w actor call).world
