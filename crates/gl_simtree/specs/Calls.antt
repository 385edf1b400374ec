-- The calls on the tree: each one's refusals in their order, and the rows after it. All of it is this project's choice,
-- but for the files and their values (the kernel's document on gpio-sim).
use Rattle.std.specs.Prelude.{ℕ, Bool, true, false, not, ◌==◌, nat_le, nat_lt, is_none, List, [], ◌∷◌, ◌++◌, length, Option, Some, None, Result, Ok, Err, unwrap_or}
use Rattle.gl_base.specs.Refusals.{when, first_of}
use Rattle.gl_base.specs.Rows.{change_first, without_first}
use Rattle.gl_base.specs.declared.errno.Errno.{Errno}
use Rattle.gl_base.specs.declared.errno.Errno.TheVariants.{Inval, NoEnt, Busy, Exist, NoSpc, Perm}
use Rattle.std.specs.List.{list_any}
use Rattle.gl_simtree.specs.declared.limits.TheConstants.{DIRECTORIES_MAX}
use Rattle.gl_simtree.specs.declared.node.Directory.{Directory}
use Rattle.gl_simtree.specs.declared.node.Directory.TheVariants.{Device}
use Rattle.gl_simtree.specs.declared.node.File.{File}
use Rattle.gl_simtree.specs.declared.node.File.TheVariants.{Live as LiveFile, ChipName}
use Rattle.gl_simtree.specs.declared.node.Node.{Node}
use Rattle.gl_simtree.specs.declared.node.Node.TheVariants.{Directory as DirectoryNode, File as FileNode}
use Rattle.gl_simtree.specs.declared.row.State.{State}
use Rattle.gl_simtree.specs.declared.row.State.TheVariants.{Off, Live, Leaving}
use Rattle.gl_simtree.specs.declared.row.TreeRow.{TreeRow}
use Rattle.gl_simtree.specs.Forms.{is_device}
use Rattle.gl_simtree.specs.Rows.{is_row_of, is_row_in, new_row, device_of, row_at, has, has_parent, state_of, is_busy, banks_of}
use Rattle.gl_simtree.specs.Values.{row_written, shown}

-- mkdir
abbrev pub mkdir_refusal : Option Node → List TreeRow → Option Errno
mkdir_refusal (Some (DirectoryNode directory)) rows = first_of
    (when (not (has_parent directory rows)) NoEnt
    ∷ when (is_busy (device_of directory) rows) Busy
    ∷ when (has directory rows) Exist
    ∷ when (nat_le DIRECTORIES_MAX (length rows)) NoSpc
    ∷ [])
mkdir_refusal _ rows = Some Inval

abbrev pub made : Option Node → List TreeRow → List TreeRow
made (Some (DirectoryNode directory)) rows = rows ++ new_row directory ∷ []
made _ rows = rows

-- rmdir
abbrev pub rmdir_refusal : Option Node → List TreeRow → Option Errno
rmdir_refusal (Some (DirectoryNode directory)) rows = first_of
    (when (not (has directory rows)) NoEnt
    ∷ when (is_busy (device_of directory) rows) Busy
    ∷ when (list_any (is_row_in directory) rows) Busy
    ∷ [])
rmdir_refusal _ rows = Some Inval

abbrev pub removed : Option Node → List TreeRow → List TreeRow
removed (Some (DirectoryNode directory)) rows = without_first (is_row_of directory) rows
removed _ rows = rows

-- write
abbrev pub is_chip_name : File → Bool
is_chip_name ChipName = true
is_chip_name _ = false

abbrev pub write_to : Directory → File → List ℕ → Option TreeRow → List TreeRow → Option Errno
write_to directory file value None rows = Some NoEnt
write_to directory file value (Some row) rows = first_of
    (when (is_chip_name file) Perm
    ∷ when (is_busy (device_of directory) rows) Busy
    ∷ when (is_none (row_written file value row)) Inval
    ∷ [])

abbrev pub write_refusal : Option Node → List ℕ → List TreeRow → Option Errno
write_refusal (Some (FileNode directory LiveFile)) value rows = Some Inval
write_refusal (Some (FileNode directory file)) value rows = write_to directory file value (row_at directory rows) rows
write_refusal _ value rows = Some Inval

abbrev pub written : Option Node → List ℕ → List TreeRow → List TreeRow
written (Some (FileNode directory file)) value rows = change_first (is_row_of directory) (λ row. unwrap_or (row_written file value row) row) rows
written _ value rows = rows

-- read
abbrev pub shown_of : File → Option TreeRow → List TreeRow → Result (List ℕ) Errno
shown_of file None rows = Err NoEnt
shown_of file (Some row) rows = Ok (shown file row rows)

abbrev pub read_answer : Option Node → List TreeRow → Result (List ℕ) Errno
read_answer (Some (FileNode directory file)) rows = shown_of file (row_at directory rows) rows
read_answer _ rows = Err Inval

-- `live` to 1
abbrev pub is_live : State → Bool
is_live (Live first) = true
is_live _ = false

abbrev pub is_leaving : State → Bool
is_leaving (Leaving first) = true
is_leaving _ = false

abbrev pub live_refusal : List ℕ → ℕ → List TreeRow → Option Errno
live_refusal device left rows = first_of
    (when (not (is_device device)) Inval
    ∷ when (not (has (Device device) rows)) NoEnt
    ∷ when (is_leaving (state_of device rows)) Busy
    ∷ when (is_live (state_of device rows)) Perm
    ∷ when (length (banks_of device rows) == 0) Inval
    ∷ when (nat_lt left (length (banks_of device rows))) NoSpc
    ∷ [])

-- `live` to 0
abbrev pub remove_refusal : List ℕ → List TreeRow → Option Errno
remove_refusal device rows = first_of
    (when (not (is_device device)) Inval
    ∷ when (not (has (Device device) rows)) NoEnt
    ∷ when (is_leaving (state_of device rows)) Busy
    ∷ when (not (is_live (state_of device rows))) Perm
    ∷ [])

-- a live device becomes leaving, from the same place on; another stays as it is
abbrev pub leaving_state : State → State
leaving_state (Live first) = Leaving first
leaving_state Off = Off
leaving_state (Leaving first) = Leaving first
