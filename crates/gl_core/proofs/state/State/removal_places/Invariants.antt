use Rattle.std.proofs.Common.{◌≡◌, ◌≤◌, ℕ, length}
use Rattle.std.specs.Prelude.{◌&&◌, nat_lt}
use Rattle.gl_model.specs.World.{World}
use Rattle.gl_core.specs.Chosen.{is_chosen, is_in_removal}
use Rattle.gl_core.specs.Kept.{StandsFor}
use Rattle.gl_core.proofs.state.State.removal_places.Given as goal
use Rattle.gl_base.specs.declared.limits.TheConstants.{PLACES}

-- a mark for each place, of which not more are used, and so far those are marked that are meant
abbrev pub invariant-loop-place : goal.invariant-loop-place
invariant-loop-place l =
    (length l.places ≡ PLACES)
    × (l.place-end ≤ PLACES)
    × ((w : World) → StandsFor l.self w → (p : ℕ) → is_chosen l.places p ≡ (nat_lt p l.place && is_in_removal l.device l.remover w p))
