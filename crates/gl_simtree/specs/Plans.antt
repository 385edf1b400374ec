-- What a bank becomes when its device goes live (the kernel's document on gpio-sim).
use Rattle.std.specs.Prelude.{ℕ, zero, suc, ◌+◌, List, [], ◌∷◌, ◌++◌, Option, Some}
use Rattle.gl_desc.specs.declared.hog.Hog.{Hog as HogPlan}
use Rattle.gl_simtree.specs.declared.node.Directory.TheVariants.{Line, Hog}
use Rattle.gl_simtree.specs.declared.row.TreeRow.{TreeRow}
use Rattle.gl_simtree.specs.declared.row.TreeRow.TheVariants.{Bank as BankRow, Line as LineRow, Hog as HogRow}
use Rattle.gl_simtree.specs.Rows.{row_at}

-- the label of a bank's chip: that of the bank, or DEV-BANK where this is empty (this project's choice); 45 is `-`
abbrev pub chip_label : List ℕ → List ℕ → List ℕ → List ℕ
chip_label device bank [] = device ++ 45 ∷ bank
chip_label device bank (byte ∷ bytes) = byte ∷ bytes

abbrev pub planned_label : Option TreeRow → List ℕ
planned_label (Some (BankRow device bank lines label)) = chip_label device bank label
planned_label _ = []

abbrev pub planned_lines : Option TreeRow → ℕ
planned_lines (Some (BankRow device bank lines label)) = lines
planned_lines _ = 0

-- the name of a line directory, with its offset
abbrev pub line_name : Option TreeRow → List (ℕ × List ℕ)
line_name (Some (LineRow device bank line name)) = (line, name) ∷ []
line_name _ = []

-- the names of the n lines from an offset on
abbrev pub names_from : List ℕ → List ℕ → List TreeRow → ℕ → ℕ → List (ℕ × List ℕ)
names_from device bank rows offset zero = []
names_from device bank rows offset (suc n) = line_name (row_at (Line device bank offset) rows) ++ names_from device bank rows (offset + 1) n

abbrev pub planned_names : Option TreeRow → List TreeRow → List (ℕ × List ℕ)
planned_names (Some (BankRow device bank lines label)) rows = names_from device bank rows 0 lines
planned_names _ rows = []

-- the hog of a hog directory
abbrev pub line_hog : Option TreeRow → List HogPlan
line_hog (Some (HogRow device bank line name way)) = record { offset = line; name = name; way = way } ∷ []
line_hog _ = []

abbrev pub hogs_from : List ℕ → List ℕ → List TreeRow → ℕ → ℕ → List HogPlan
hogs_from device bank rows offset zero = []
hogs_from device bank rows offset (suc n) = line_hog (row_at (Hog device bank offset) rows) ++ hogs_from device bank rows (offset + 1) n

abbrev pub planned_hogs : Option TreeRow → List TreeRow → List HogPlan
planned_hogs (Some (BankRow device bank lines label)) rows = hogs_from device bank rows 0 lines
planned_hogs _ rows = []
