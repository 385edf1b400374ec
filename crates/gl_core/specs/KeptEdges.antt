-- What is kept of a request keeps its edges.
use Rattle.gl_request.specs.Numbering.{KeepsEdges}
use Rattle.gl_model.specs.SoundRequests.{IsSoundRequest}
use Rattle.gl_model.specs.World.{Request}
use Rattle.gl_core.specs.Kept.{kept_request}

-- What is kept of a sound request keeps its edges, as a row of the table of requests does: the events that wait, and the
-- numbers of its events below 2^32.
abbrev pub KeptRequestsKeepEdges : Type 0
KeptRequestsKeepEdges = (request : Request) → IsSoundRequest request → KeepsEdges (kept_request request) request.past.all request.past.next
