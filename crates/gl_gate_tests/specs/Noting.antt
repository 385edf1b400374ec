-- What a driver that notes its calls puts into the history.
use Rattle.std.specs.Prelude.{◌≡◌, ℕ, List, [], ◌∷◌}
use Rattle.gl_world.specs.declared.history.Entry.{Entry}
use Rattle.gl_gate_tests.specs.declared.adder_call.AdderCall.{AdderCall}
use Rattle.gl_gate_tests.specs.declared.adder_call.AdderCall.TheVariants.{Alone}

-- one addition, or nothing
abbrev pub AreNotes : {S : Type 0} → List (Entry S AdderCall ℕ Unit) → Type 0
AreNotes [] = Unit {0}
AreNotes (e ∷ []) = e.call ≡ Alone
AreNotes (e ∷ f ∷ es) = ⊥
