-- What contracts see of a player: an actor of a device, with the open files of a talk and what its talks printed. This project's choice.
use Rattle.std.specs.Prelude.{ℕ, ◌==◌, Bool, Box, List}
use Rattle.gl_gate.specs.Values.{GateValue}
use Rattle.gl_asking.specs.declared.kinds.FileRow.{FileRow}
use Rattle.gl_asking.specs.Files.{OpenFile}
use Rattle.gl_asking.specs.Rows.{IsRow, row_file}
use Rattle.gl_chip.specs.Values.{OneView}
use Rattle.gl_check.specs.Turns.{Carried}

-- the gate of its device, what its actor knows, its files with what its port tells, and its text
pub record Playing : Type 0 where
  pub gate : GateValue
  pub view : OneView
  pub carried : Carried
  pub text : List ℕ

-- rows that have memory of their own: the row of a slot, the open file of a row, and what is true of a row
abbrev pub is_boxed_row : {A : Type 0} → ℕ → Box FileRow A → Bool
is_boxed_row slot row = row.value.slot == slot

abbrev pub boxed_file : {A : Type 0} → Box FileRow A → OpenFile
boxed_file row = row_file row.value

abbrev pub IsBoxedRow : {A : Type 0} → Box FileRow A → Type 0
IsBoxedRow row = IsRow row.value
