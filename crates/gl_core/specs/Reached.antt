-- What the core is at every moment: it stands for a world of which all is true that calls in range keep true.
use Rattle.std.specs.Prelude.{ℕ}
use Rattle.gl_model.specs.Bounds.{IsBounded}
use Rattle.gl_model.specs.Holders.{HoldersAgree}
use Rattle.gl_model.specs.Names.{HasAllNames}
use Rattle.gl_model.specs.OneClaim.{HasAtMostOneClaim}
use Rattle.gl_model.specs.Sound.{IsSound}
use Rattle.gl_model.specs.World.{World}
use Rattle.gl_core.specs.Kept.{Kept, StandsFor}

-- requests and lines agree on who has what; an actor has one unfinished claim at most; labels, names and consumers are names; there
-- are at most PLACES chips, and the next number of a file is at most 2^31; chips and devices agree
pub record IsGood (w : World) : Type 0 where
  pub holders : HoldersAgree w
  pub claims : (actor : ℕ) → HasAtMostOneClaim actor w
  pub names : HasAllNames w
  pub bounded : IsBounded w
  pub sound : IsSound w

-- a good world for which it stands
pub record IsReached (kept : Kept) : Type 0 where
  pub world : World
  pub stands : StandsFor kept world
  pub good : IsGood world
