-- What a bank of the tree becomes when its device goes live, as the core's tables have it.
use Rattle.std.specs.Prelude.{ℕ, List, [], ◌∷◌, ◌++◌, map, Option, Some}
use Rattle.gl_base.specs.declared.kind.Kind.TheVariants.{Simulated}
use Rattle.gl_desc.specs.declared.hog.Hog.{Hog}
use Rattle.gl_hogs.specs.Hogs.{hogged_bank, hogged_descs}
use Rattle.gl_simtree.specs.Plans.{planned_hogs, planned_label, planned_lines, planned_names}
use Rattle.gl_simtree.specs.declared.row.TreeRow.{TreeRow}
use Rattle.gl_registry.specs.Chips.{new_chip}
use Rattle.gl_model.specs.declared.place.Place.{Place}
use Rattle.gl_model.specs.Chips.{new_origin, new_place}
use Rattle.gl_model.specs.Tree.{chip_of_bank, origin_of_bank, place_of_bank, with_names}
use Rattle.gl_core.specs.Kept.{Kept}

-- the chip that a bank becomes: its label, its lines, their names and the hogs
pub record Planned : Type 0 where
  pub label : List ℕ
  pub lines : ℕ
  pub names : List (ℕ × List ℕ)
  pub hogs : List Hog

-- what a row of the tree becomes
abbrev pub planned : Option TreeRow → List TreeRow → Planned
planned bank tree = record { label = planned_label bank; lines = planned_lines bank; names = planned_names bank tree; hogs = planned_hogs bank tree }

-- the tables of a place whose lines have their names, and then the hogs are held
abbrev pub furnished : Planned → Place → Place
furnished plan place = record place { descs = hogged_descs plan.hogs (with_names plan.names place.descs); bank = hogged_bank plan.hogs place.bank }

-- the core with the chip of a plan more, for a device
abbrev pub with_planned : List ℕ → Planned → Kept → Kept
with_planned device plan k = record k {
  chips = k.chips ++ new_chip plan.label plan.lines ∷ [];
  origins = k.origins ++ new_origin Simulated (Some device) ∷ [];
  places = k.places ++ furnished plan (new_place plan.lines) ∷ [];
}

-- the core in which some banks of a device have become chips, in order
abbrev pub with_bank_chips : List ℕ → List TreeRow → Kept → Kept
with_bank_chips device banks k = record k {
  chips = k.chips ++ map chip_of_bank banks;
  origins = k.origins ++ map (origin_of_bank device) banks;
  places = k.places ++ map (place_of_bank k.tree) banks;
}
