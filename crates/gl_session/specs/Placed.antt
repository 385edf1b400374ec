-- Places of a device at which a chip was made, as far as an actor has seen. This project's choice.
use Rattle.std.specs.Prelude.{◌≤◌, ℕ, List}
use Rattle.gl_base.specs.Rows.{Each}
use Rattle.gl_world.specs.History.{Legal, StartsWith, fold, stage}
use Rattle.gl_driver.specs.declared.map.Map.{Map}
use Rattle.gl_core.specs.Device.{OneEntry, core}
use Rattle.gl_asking.specs.Files.{OpenFile}

-- a chip was made there before the last of these entries
pub record IsPlaced (seen : List OneEntry) (place : ℕ) : Type 0 where
  pub by_then : List OneEntry
  pub begins : StartsWith seen by_then
  pub legal : Legal core by_then
  pub there : 1 ≤ stage core (fold core by_then) place

abbrev pub AreFilesPlaced : List OneEntry → List OpenFile → Type 0
AreFilesPlaced seen files = Each (λ (file : OpenFile). IsPlaced seen file.place) files

abbrev pub AreMapsPlaced : List OneEntry → List Map → Type 0
AreMapsPlaced seen maps = Each (λ (map : Map). IsPlaced seen map.place) maps
