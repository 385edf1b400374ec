-- A sum that is cut off.
use Rattle.std.proofs.Common.{◌≡◌, ℕ, ◌+◌, ◌*◌, min, arith}
use Rattle.gl_base.specs.declared.limits.TheConstants.{COST_MAX}

pub capped : (t c s : ℕ) → min (min (t + min c (COST_MAX + 1)) (COST_MAX + 1) + s) (COST_MAX + 1) ≡ min (t + (c + s)) (COST_MAX + 1)
capped t c s = omega arith

-- five times a number that is cut off
pub five_capped : (s : ℕ) → min (5 * min s (COST_MAX + 1)) (COST_MAX + 1) ≡ min (5 * s) (COST_MAX + 1)
five_capped s = omega arith
