-- The values of the files: what may be written, what becomes of the row, and what is read (the kernel's document on gpio-sim).
use Rattle.std.specs.Prelude.{ℕ, ◌+◌, ◌&&◌, if◌then◌else◌, nat_le, List, [], ◌∷◌, Option, Some, None, codes}
use Rattle.std.specs.Option.{option_map}
use Rattle.std.specs.Str.{bytes_eq}
use Rattle.gl_base.specs.ChipWord.{chip_name}
use Rattle.gl_base.specs.Decimal.{decimal, plain_number_of_text}
use Rattle.gl_base.specs.declared.limits.TheConstants.{LINES_MAX}
use Rattle.gl_desc.specs.declared.hog.HogWay.{HogWay}
use Rattle.gl_desc.specs.declared.hog.HogWay.TheVariants.{Input, High, Low}
use Rattle.gl_simtree.specs.declared.node.File.{File}
use Rattle.gl_simtree.specs.declared.node.File.TheVariants.{Live as LiveFile, ChipName, NumLines, Label, LineName, HogName, Direction}
use Rattle.gl_simtree.specs.declared.row.State.{State}
use Rattle.gl_simtree.specs.declared.row.State.TheVariants.{Live}
use Rattle.gl_simtree.specs.declared.row.TreeRow.{TreeRow}
use Rattle.gl_simtree.specs.declared.row.TreeRow.TheVariants.{Device as DeviceRow, Bank as BankRow, Line as LineRow, Hog as HogRow}
use Rattle.gl_simtree.specs.Rows.{is_busy_state, state_of, bank_number}

abbrev pub lines_within : Option ℕ → Option ℕ
lines_within None = None
lines_within (Some lines) = if nat_le 1 lines && nat_le lines LINES_MAX then Some lines else None

-- a number of lines: a decimal from 1 to 512 without a leading zero
abbrev pub lines_of_text : List ℕ → Option ℕ
lines_of_text value = lines_within (plain_number_of_text value)

-- how a hogged line is held
abbrev pub way_of_text : List ℕ → Option HogWay
way_of_text value =
    if bytes_eq value (codes "input") then Some Input
    else if bytes_eq value (codes "output-high") then Some High
    else if bytes_eq value (codes "output-low") then Some Low
    else None

abbrev pub text_of_way : HogWay → List ℕ
text_of_way Input = codes "input"
text_of_way High = codes "output-high"
text_of_way Low = codes "output-low"

-- a text that isn't empty
abbrev pub some_text : List ℕ → Option (List ℕ)
some_text [] = None
some_text (byte ∷ bytes) = Some (byte ∷ bytes)

-- the row after a write to its file, where the value is one of the file's
abbrev pub row_written : File → List ℕ → TreeRow → Option TreeRow
row_written NumLines value (BankRow device bank lines label) = option_map (λ lines. BankRow device bank lines label) (lines_of_text value)
row_written Label value (BankRow device bank lines label) = option_map (λ label. BankRow device bank lines label) (some_text value)
row_written LineName value (LineRow device bank line name) = option_map (λ name. LineRow device bank line name) (some_text value)
row_written HogName value (HogRow device bank line name way) = option_map (λ name. HogRow device bank line name way) (some_text value)
row_written Direction value (HogRow device bank line name way) = option_map (λ way. HogRow device bank line name way) (way_of_text value)
row_written _ value row = None

-- the name of a bank's chip, by how far its device is and which of its banks this is
abbrev pub chip_name_of : State → ℕ → List ℕ
chip_name_of (Live first) bank = chip_name (first + bank)
chip_name_of _ bank = codes "none"

abbrev pub live_text : State → List ℕ
live_text state = if is_busy_state state then codes "1" else codes "0"

-- what a file of a row reads as, where the tree has these rows
abbrev pub shown : File → TreeRow → List TreeRow → List ℕ
shown LiveFile (DeviceRow device state) rows = live_text state
shown ChipName (BankRow device bank lines label) rows = chip_name_of (state_of device rows) (bank_number device bank rows)
shown NumLines (BankRow device bank lines label) rows = decimal lines
shown Label (BankRow device bank lines label) rows = label
shown LineName (LineRow device bank line name) rows = name
shown HogName (HogRow device bank line name way) rows = name
shown Direction (HogRow device bank line name way) rows = text_of_way way
shown _ row rows = []
