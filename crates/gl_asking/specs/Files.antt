-- The open files of a client, by the slots that its operations name. This project's choice.
use Rattle.std.specs.Prelude.{ℕ, Bool, true, false, ◌==◌, List, [], ◌∷◌, ◌++◌, Option, None, Some, find}
use Rattle.gl_base.specs.Rows.{without_first}
use Rattle.gl_base.specs.declared.lines.Lines.{Lines}

-- an open file: its slot, the place of its chip, its number, and whether it is a chip's; else it is a request of these lines
pub record OpenFile : Type 0 where
  pub slot : ℕ
  pub place : ℕ
  pub fd : ℕ
  pub of_chip : Bool
  pub lines : Lines

-- a chip's file requests none
abbrev pub no_lines : Lines
no_lines = record { count = 0; offsets = [] }

abbrev pub is_in : ℕ → OpenFile → Bool
is_in slot file = file.slot == slot

-- the file in a slot, if there is one
abbrev pub file_in : ℕ → List OpenFile → Option OpenFile
file_in slot files = find (is_in slot) files

-- the file in this slot, if a slot is named and the file is there
abbrev pub file_at : Option ℕ → List OpenFile → Option OpenFile
file_at None files = None
file_at (Some slot) files = file_in slot files

-- a file more, and a file less
abbrev pub with_file : OpenFile → List OpenFile → List OpenFile
with_file file files = files ++ file ∷ []

abbrev pub without_file : ℕ → List OpenFile → List OpenFile
without_file slot files = without_first (is_in slot) files

abbrev pub chip_file : ℕ → ℕ → ℕ → OpenFile
chip_file slot place fd = record { slot = slot; place = place; fd = fd; of_chip = true; lines = no_lines }

abbrev pub line_file : ℕ → ℕ → ℕ → Lines → OpenFile
line_file slot place fd lines = record { slot = slot; place = place; fd = fd; of_chip = false; lines = lines }
