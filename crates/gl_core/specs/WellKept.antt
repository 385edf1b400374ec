-- What is true of a core at every moment, fact by fact. Nothing above the core needs to know it.
use Rattle.std.specs.Prelude.{◌≡◌, ℕ, ◌*◌, ◌<◌, ◌≤◌, ◌^◌, length, nat_eq}
use Rattle.std.specs.List.{IsDistinct}
use Rattle.gl_base.specs.Rows.{Each}
use Rattle.gl_base.specs.declared.limits.TheConstants.{LINES_MAX, PLACES}
use Rattle.gl_debounce.specs.Timer.{HardLinesAreStill}
use Rattle.gl_request.specs.Request.{HasLines as HasLimits}
use Rattle.gl_model.specs.Holders.{HasItsLines, HoldersAgree, file_numbers}
use Rattle.gl_model.specs.Names.{HasAllNames}
use Rattle.gl_model.specs.OneClaim.{HasAtMostOneClaim}
use Rattle.gl_model.specs.World.{World}
use Rattle.gl_core.specs.Kept.{Kept, StandsFor}
use Rattle.gl_core.specs.Shape.{IsShaped}

-- what the tables tell by themselves
pub record HasItsTables (k : Kept) : Type 0 where
  -- chips, origins and places are as many, and each place's tables have its chip's lines
  pub shape : IsShaped k.chips k.origins k.places
  -- each line of each place has its timer
  pub timers : length k.timers ≡ PLACES * LINES_MAX
  -- a line that its driver debounces has no deadline
  pub hard_lines : HardLinesAreStill k.timers
  -- the monotonic clock is below 2^63
  pub clock : k.mono < 2 ^ 63
  -- a request has 1 to 64 lines, and room for 1 to 1024 events
  pub limits : Each HasLimits k.requests

-- what is true of the world that a core stands for
pub record IsInOrder (w : World) : Type 0 where
  -- a line has one holder: each line of a request is a line of its chip, and is held by just this request, or claimed by it
  pub one_holder : Each (HasItsLines w) w.requests
  -- and each line that is held or claimed is one of the lines of the request of that number
  pub agree : HoldersAgree w
  -- an actor has one unfinished claim at most
  pub one_claim : (actor : ℕ) → HasAtMostOneClaim actor w
  -- requests and files have different numbers
  pub numbers_differ : IsDistinct nat_eq (file_numbers w)
  -- all these are below the next number, which is at most 2^31
  pub numbers_below : Each (λ fd. fd < w.next) (file_numbers w)
  pub next : w.next ≤ 2 ^ 31
  -- labels, names, consumers and the texts of the tree are names
  pub names : HasAllNames w

-- a core at any moment
pub record IsWellKept (k : Kept) : Type 0 where
  pub tables : HasItsTables k
  pub world : World
  pub stands : StandsFor k world
  pub in_order : IsInOrder world
