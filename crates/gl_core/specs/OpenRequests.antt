-- Open requests and chip files: where the tables have them, and why a call on one is refused.
use Rattle.std.specs.Prelude.{ℕ, true, length, [], ◌∷◌, Option}
use Rattle.gl_base.specs.Refusals.{first_of}
use Rattle.gl_base.specs.declared.errno.Errno.{Errno}
use Rattle.gl_request.specs.Request.{StandsAt}
use Rattle.gl_request.specs.declared.row.RequestAt.{RequestAt}
use Rattle.gl_uapi.specs.declared.layout.TheConstants.{INFO_CHANGED_SIZE, LINE_EVENT_SIZE}
use Rattle.gl_model.specs.OpenFiles.{chip_file_refusal, is_request_file, request_file_refusal}
use Rattle.gl_model.specs.Reading.{changes_for, events_for, read_refusal}
use Rattle.gl_model.specs.World.{World}
use Rattle.gl_core.specs.Kept.{Kept}
use Rattle.gl_core.specs.Steps.{Tells}

-- the request that was found stands there, and is open at this place
pub record IsOpenAt (k : Kept) (place : ℕ) (found : RequestAt) : Type 0 where
  pub stands : StandsAt found k.requests
  pub opened : Tells (is_request_file place found.fd) k true

-- why a read of events is refused
abbrev pub edges_refusal : ℕ → ℕ → ℕ → World → Option Errno
edges_refusal place fd len w = first_of (request_file_refusal place fd w ∷ read_refusal LINE_EVENT_SIZE len (length (events_for fd w)) ∷ [])

-- why a read of changes is refused
abbrev pub changes_refusal : ℕ → ℕ → ℕ → World → Option Errno
changes_refusal place fd len w = first_of (chip_file_refusal place fd w ∷ read_refusal INFO_CHANGED_SIZE len (length (changes_for fd w)) ∷ [])
