-- Which texts of a world are names, and that calls keep them so. A name has at most 31 bytes and no byte 0, and so fits its
-- field (`GPIO_MAX_NAME_SIZE` of `linux/gpio.h`).
use Rattle.std.specs.Prelude.{ℕ, IsTrue}
use Rattle.gl_base.specs.Name.{is_name}
use Rattle.gl_base.specs.Rows.{Each}
use Rattle.gl_desc.specs.declared.desc.Desc.{Desc}
use Rattle.gl_registry.specs.Chips.{chip_at}
use Rattle.gl_registry.specs.declared.registry.Chip.{Chip}
use Rattle.gl_simtree.specs.Forms.{is_part}
use Rattle.gl_simtree.specs.declared.row.TreeRow.{TreeRow}
use Rattle.gl_simtree.specs.declared.row.TreeRow.TheVariants.{Device as DeviceRow, Bank as BankRow, Line as LineRow, Hog as HogRow}
use Rattle.gl_model.specs.declared.call.Call.{Call}
use Rattle.gl_model.specs.declared.place.Place.{Place}
use Rattle.gl_model.specs.Information.{line_at}
use Rattle.gl_model.specs.Fits.{FitsCall}
use Rattle.gl_model.specs.Machine.{Always, world_of}
use Rattle.gl_model.specs.Places.{place_at}
use Rattle.gl_model.specs.Step.{step}
use Rattle.gl_model.specs.World.{World, opening}

-- the labels of a world's chips, and the names and the consumers of their lines, are names
pub record HasNames (w : World) : Type 0 where
  pub labels : (place : ℕ) → IsTrue (is_name (chip_at w.chips place).label)
  pub names : (place offset : ℕ) → IsTrue (is_name (line_at (place_at w place) offset).desc.name)
  pub consumers : (place offset : ℕ) → IsTrue (is_name (line_at (place_at w place) offset).desc.consumer)

-- the label of a chip is a name
abbrev pub IsNamedChip : Chip → Type 0
IsNamedChip chip = IsTrue (is_name chip.label)

-- the name and the consumer of a line are names
pub record IsNamedLine (line : Desc) : Type 0 where
  pub name : IsTrue (is_name line.name)
  pub consumer : IsTrue (is_name line.consumer)

-- the names and the consumers of all lines of a chip are names
abbrev pub HasNamedLines : Place → Type 0
HasNamedLines place = Each IsNamedLine place.descs

-- The texts of a directory of the tree are names: the label of a bank, the name of a line, and that of a hog. Device and bank
-- are parts of a path, of at most 15 bytes each: so DEV-BANK, the label of a chip whose bank has none, is a name too.
abbrev pub HasNamedTexts : TreeRow → Type 0
HasNamedTexts (DeviceRow device state) = Unit {0}
HasNamedTexts (BankRow device bank lines label) = IsTrue (is_part device) × IsTrue (is_part bank) × IsTrue (is_name label)
HasNamedTexts (LineRow device bank line name) = IsTrue (is_name name)
HasNamedTexts (HogRow device bank line name way) = IsTrue (is_name name)

-- the labels of the chips, the names and the consumers of their lines, and the texts of the tree, from which the chips of a
-- device get theirs, are names
pub record HasAllNames (w : World) : Type 0 where
  pub chips : Each IsNamedChip w.chips
  pub lines : Each HasNamedLines w.places
  pub tree : Each HasNamedTexts w.tree

-- All texts of the opening world are names. Each call in range keeps that. And where it is so, the label, the
-- name and the consumer that are found at any place and offset are names.
pub record NamesStay : Type 0 where
  pub opens : HasAllNames opening
  pub stay : (w : World) (actor : ℕ) (call : Call) → HasAllNames w → FitsCall call → HasAllNames (step w actor call).world
  pub shown : (w : World) → HasAllNames w → HasNames w

-- in each world that a legal history leads to, labels, names and consumers are names
abbrev pub LegalWorldsHaveNames : {K : Type 0} → (K → World → Type 0) → Type 0
LegalWorldsHaveNames stands_for = Always stands_for (λ history. HasNames (world_of stands_for history))
