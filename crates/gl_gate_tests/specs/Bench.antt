-- A pass that a gate has alone, between two of its calls.
use Rattle.std.specs.Prelude.{◌≡◌, []}
use Rattle.gl_rule.specs.declared.view.View.{View}
use Rattle.gl_gate.specs.Calls.{HoldsNoTurn}

-- the first pass, before there is another one: it is inside no place, and in the middle of no call
abbrev pub IsAlone : {M C R G : Type 0} → View M C R G → Type 0
IsAlone v = (v.number ≡ 0) × (v.made ≡ 1) × (v.joined ≡ []) × (v.inside ≡ []) × HoldsNoTurn v
