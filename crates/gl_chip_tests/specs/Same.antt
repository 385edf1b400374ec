-- Actors from one call to the next.
use Rattle.std.specs.Prelude.{◌≡◌}
use Rattle.gl_chip.specs.Values.{OneView}

-- the same actor: it took no other one in, and made none
abbrev pub IsSame : (v w : OneView) → Type 0
IsSame v w = (w.number ≡ v.number) × (w.made ≡ v.made) × (w.joined ≡ v.joined)
