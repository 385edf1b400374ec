-- The core is reached as it opens, and each call in range leads from such a core to such a core.
use Rattle.std.proofs.Common.{ℕ, arith}
use Rattle.gl_model.specs.declared.call.Call.{Call}
use Rattle.gl_model.specs.Fits.{FitsCall}
use Rattle.gl_model.specs.Step.{step}
use Rattle.gl_model.specs.World.{World, opening}
use Rattle.gl_model.proofs.Bounds.{worlds_stay_bounded}
use Rattle.gl_model.proofs.Claims.{keeps as claims_stay}
use Rattle.gl_model.proofs.HoldersLaw.{holders_stay_agreed, opens as opens_agreed}
use Rattle.gl_model.proofs.Names.{names_stay}
use Rattle.gl_model.proofs.Soundness.{keeps_sound, opens as opens_sound}
use Rattle.gl_core.specs.Kept.{Kept, StandsFor}
use Rattle.gl_core.specs.Reached.{IsGood, IsReached}

opening_good : IsGood opening
opening_good = record {
  holders = opens_agreed;
  claims = λ actor. omega arith;
  names = names_stay.opens;
  bounded = worlds_stay_bounded.opens;
  sound = opens_sound;
}

pub opening_reached : (kept : Kept) → StandsFor kept opening → IsReached kept
opening_reached kept stands = record { world = opening; stands = stands; good = opening_good }

step_good : (w : World) (actor : ℕ) (call : Call) → FitsCall call → IsGood w → IsGood (step w actor call).world
step_good w actor call fits good = record {
  holders = holders_stay_agreed w actor call good.holders;
  claims = claims_stay w actor call good.claims;
  names = names_stay.stay w actor call good.names fits;
  bounded = worlds_stay_bounded.stay w actor call good.bounded;
  sound = keeps_sound w actor call good.sound;
}

pub step_reached : (old new : Kept) (actor : ℕ) (call : Call) → FitsCall call
    → ((w : World) → StandsFor old w → StandsFor new (step w actor call).world) → IsReached old → IsReached new
step_reached old new actor call fits stands reached = record {
  world = (step reached.world actor call).world;
  stands = stands reached.world reached.stands;
  good = step_good reached.world actor call fits reached.good;
}
