-- How many chips and which numbers of files there are in each world that calls lead to. That places and numbers are used once,
-- and how many there are, is this project's choice; a file's number is an `int`.
use Rattle.std.specs.Prelude.{ℕ, ◌<◌, ◌≤◌, ◌^◌, length}
use Rattle.gl_base.specs.Rows.{Each}
use Rattle.gl_base.specs.declared.limits.TheConstants.{PLACES}
use Rattle.gl_model.specs.declared.call.Call.{Call}
use Rattle.gl_model.specs.Holders.{file_numbers}
use Rattle.gl_model.specs.Machine.{Always, world_of}
use Rattle.gl_model.specs.Step.{step}
use Rattle.gl_model.specs.World.{World, opening}

-- there are at most PLACES chips, and the next number of a file is at most 2^31
pub record IsBounded (w : World) : Type 0 where
  pub chips : length w.chips ≤ PLACES
  pub next : w.next ≤ 2 ^ 31

-- that is true of the opening world, and each call keeps it true
pub record WorldsStayBounded : Type 0 where
  pub opens : IsBounded opening
  pub stay : (w : World) (actor : ℕ) (call : Call) → IsBounded w → IsBounded (step w actor call).world

-- So in each world that a legal history leads to there are at most PLACES chips, and each file, be it a chip's or a request's,
-- has a number below 2^31.
pub record HasBounds (w : World) : Type 0 where
  pub bounded : IsBounded w
  pub numbers : Each (λ fd. fd < 2 ^ 31) (file_numbers w)

abbrev pub LegalWorldsHaveBounds : {K : Type 0} → (K → World → Type 0) → Type 0
LegalWorldsHaveBounds stands_for = Always stands_for (λ history. HasBounds (world_of stands_for history))
