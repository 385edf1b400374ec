-- Some of the places, as a table with a mark for each of them.
use Rattle.std.specs.Prelude.{◌≡◌, ℕ, Bool, false, ◌&&◌, nat_lt, List, Option, Some, None, slice_index_or}
use Rattle.gl_model.specs.Removal.{is_removing_of, is_up_of}
use Rattle.gl_model.specs.World.{World}
use Rattle.gl_core.specs.Kept.{Kept, StandsFor}

-- whether a place is marked
abbrev pub is_chosen : List Bool → ℕ → Bool
is_chosen marks place = slice_index_or marks place false

-- the marked ones of the first places
abbrev pub chosen_below : ℕ → List Bool → ℕ → Bool
chosen_below n marks place = nat_lt place n && is_chosen marks place

-- the marked places are those that pass a test, in each world that the core stands for
abbrev pub Chooses : (World → ℕ → Bool) → Kept → List Bool → Type 0
Chooses test kept marks = (w : World) → StandsFor kept w → (place : ℕ) → is_chosen marks place ≡ test w place

-- the chip of a place is one of those that the removal of a device begins with: those that are up; or, with an actor, of those
-- that this actor removes
abbrev pub is_in_removal : List ℕ → Option ℕ → World → ℕ → Bool
is_in_removal device None w place = is_up_of device w place
is_in_removal device (Some actor) w place = is_removing_of device actor w place
