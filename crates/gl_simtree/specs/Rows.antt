-- The tree: a list of rows, one a directory with its values, in order of their making.
use Rattle.std.specs.Prelude.{ℕ, ◌==◌, ◌&&◌, Bool, true, false, List, [], Option, Some}
use Rattle.std.specs.List.{find, list_any, filter, position_or_len}
use Rattle.std.specs.Str.{bytes_eq}
use Rattle.gl_base.specs.Rows.{change_first}
use Rattle.gl_desc.specs.declared.hog.HogWay.TheVariants.{Input}
use Rattle.gl_simtree.specs.declared.node.Directory.{Directory}
use Rattle.gl_simtree.specs.declared.node.Directory.TheVariants.{Device, Bank, Line, Hog}
use Rattle.gl_simtree.specs.declared.row.State.{State}
use Rattle.gl_simtree.specs.declared.row.State.TheVariants.{Off, Live, Leaving}
use Rattle.gl_simtree.specs.declared.row.TreeRow.{TreeRow}
use Rattle.gl_simtree.specs.declared.row.TreeRow.TheVariants.{Device as DeviceRow, Bank as BankRow, Line as LineRow, Hog as HogRow}

-- the row is that of this directory
abbrev pub is_row_of : Directory → TreeRow → Bool
is_row_of (Device device) (DeviceRow device' state) = bytes_eq device device'
is_row_of (Bank device bank) (BankRow device' bank' lines label) = bytes_eq device device' && bytes_eq bank bank'
is_row_of (Line device bank line) (LineRow device' bank' line' name) = bytes_eq device device' && bytes_eq bank bank' && line == line'
is_row_of (Hog device bank line) (HogRow device' bank' line' name way) = bytes_eq device device' && bytes_eq bank bank' && line == line'
is_row_of _ _ = false

-- the row is that of a directory right inside this one
abbrev pub is_row_in : Directory → TreeRow → Bool
is_row_in (Device device) (BankRow device' bank' lines label) = bytes_eq device device'
is_row_in (Bank device bank) (LineRow device' bank' line' name) = bytes_eq device device' && bytes_eq bank bank'
is_row_in (Line device bank line) (HogRow device' bank' line' name way) = bytes_eq device device' && bytes_eq bank bank' && line == line'
is_row_in _ _ = false

-- the row of a new directory, with its values at first
abbrev pub new_row : Directory → TreeRow
new_row (Device device) = DeviceRow device Off
new_row (Bank device bank) = BankRow device bank 1 []
new_row (Line device bank line) = LineRow device bank line []
new_row (Hog device bank line) = HogRow device bank line [] Input

-- the device that a directory is of
abbrev pub device_of : Directory → List ℕ
device_of (Device device) = device
device_of (Bank device bank) = device
device_of (Line device bank line) = device
device_of (Hog device bank line) = device

abbrev pub row_at : Directory → List TreeRow → Option TreeRow
row_at directory rows = find (is_row_of directory) rows

abbrev pub has : Directory → List TreeRow → Bool
has directory rows = list_any (is_row_of directory) rows

-- a directory stands in another, but for a device
abbrev pub has_parent : Directory → List TreeRow → Bool
has_parent (Device device) rows = true
has_parent (Bank device bank) rows = has (Device device) rows
has_parent (Line device bank line) rows = has (Bank device bank) rows
has_parent (Hog device bank line) rows = has (Line device bank line) rows

-- how far the device of a row is
abbrev pub row_state : Option TreeRow → State
row_state (Some (DeviceRow device state)) = state
row_state _ = Off

abbrev pub state_of : List ℕ → List TreeRow → State
state_of device rows = row_state (row_at (Device device) rows)

-- a device is busy while it is live or leaving
abbrev pub is_busy_state : State → Bool
is_busy_state Off = false
is_busy_state (Live first) = true
is_busy_state (Leaving first) = true

abbrev pub is_busy : List ℕ → List TreeRow → Bool
is_busy device rows = is_busy_state (state_of device rows)

-- the rows with a device's state changed
abbrev pub row_with_state : State → TreeRow → TreeRow
row_with_state state (DeviceRow device state') = DeviceRow device state
row_with_state state (BankRow device bank lines label) = BankRow device bank lines label
row_with_state state (LineRow device bank line name) = LineRow device bank line name
row_with_state state (HogRow device bank line name way) = HogRow device bank line name way

abbrev pub with_state : List ℕ → State → List TreeRow → List TreeRow
with_state device state rows = change_first (is_row_of (Device device)) (row_with_state state) rows

-- the rows of a device's banks, in order of their making
abbrev pub banks_of : List ℕ → List TreeRow → List TreeRow
banks_of device rows = filter (is_row_in (Device device)) rows

-- which of its device's banks a bank is, counted from 0
abbrev pub bank_number : List ℕ → List ℕ → List TreeRow → ℕ
bank_number device bank rows = position_or_len (is_row_of (Bank device bank)) (banks_of device rows)
