-- The information on a chip, `struct gpiochip_info` of `linux/gpio.h`.
use Rattle.std.specs.Prelude.{ℕ, ◌≡◌, List, ◌++◌, length}
use Rattle.gl_base.specs.Name.{field_of}
use Rattle.gl_uapi.specs.declared.layout.TheConstants.{CHIP_INFO_SIZE, CHIP_NAME, CHIP_LABEL, CHIP_LINES, NAME_SIZE}
use Rattle.gl_uapi.specs.Fields.{number_at, number_bytes, stretch}

-- the bytes spell the information on a chip of this name and label, with so many lines
pub record SpellsChip (bytes name label : List ℕ) (lines : ℕ) : Type 0 where
  pub size : length bytes ≡ CHIP_INFO_SIZE
  pub name_stands : stretch CHIP_NAME NAME_SIZE bytes ≡ field_of name
  pub label_stands : stretch CHIP_LABEL NAME_SIZE bytes ≡ field_of label
  pub lines_stand : number_at 4 CHIP_LINES bytes ≡ lines

-- the bytes of that information
abbrev pub chip_bytes : List ℕ → List ℕ → ℕ → List ℕ
chip_bytes name label lines = field_of name ++ field_of label ++ number_bytes 4 lines
