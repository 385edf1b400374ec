-- A device that one actor alone calls.
use Rattle.std.specs.Prelude.{◌≡◌, []}
use Rattle.gl_chip.specs.Values.{OneView}

-- a device's first actor, before there is another one
abbrev pub IsAlone : (v : OneView) → Type 0
IsAlone v = (v.number ≡ 0) × (v.made ≡ 1) × (v.joined ≡ [])
