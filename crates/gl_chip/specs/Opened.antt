-- Opening a chip, as a call of the device: the worlds in which it finds the chip leaving.
use Rattle.std.specs.Prelude.{◌≡◌, ℕ, Bool, true, false, List, [], ◌∷◌, ◌++◌, Option, Some, None}
use Rattle.gl_registry.specs.Chips.{place_of_word}
use Rattle.gl_world.specs.History.{fold}
use Rattle.gl_model.specs.Chips.{is_leaving, phase_at}
use Rattle.gl_model.specs.World.{World}
use Rattle.gl_core.specs.Device.{OneEntry, core}

-- the chip of a place, if there is such a place, is leaving
abbrev pub is_leaving_at : Option ℕ → World → Bool
is_leaving_at None w = false
is_leaving_at (Some place) w = is_leaving (phase_at w place)

-- the chip that has this word is leaving
abbrev pub names_leaving : List ℕ → World → Bool
names_leaving word w = is_leaving_at (place_of_word w.chips word) w

-- the last entry of a history was made in a world that passes this test
abbrev pub LastFinds : (World → Bool) → List OneEntry → Type 0
LastFinds test seen = (before : List OneEntry) × (last : OneEntry) × (seen ≡ before ++ last ∷ []) × (test (fold core before) ≡ true)
