-- The rows and directories that paths make: their parts have their forms.
use Rattle.std.specs.Prelude.{◌≤◌, IsTrue}
use Rattle.gl_base.specs.declared.limits.TheConstants.{LINES_MAX}
use Rattle.gl_simtree.specs.Forms.{is_device, is_bank}
use Rattle.gl_simtree.specs.declared.node.Directory.{Directory}
use Rattle.gl_simtree.specs.declared.node.Directory.TheVariants.{Device, Bank, Line, Hog}
use Rattle.gl_simtree.specs.declared.node.Node.{Node}
use Rattle.gl_simtree.specs.declared.node.Node.TheVariants.{Directory as DirectoryNode, File as FileNode}
use Rattle.gl_simtree.specs.declared.row.TreeRow.{TreeRow}
use Rattle.gl_simtree.specs.declared.row.TreeRow.TheVariants.{Device as DeviceRow, Bank as BankRow, Line as LineRow, Hog as HogRow}

abbrev pub IsFormedDirectory : Directory → Type 0
IsFormedDirectory (Device device) = IsTrue (is_device device)
IsFormedDirectory (Bank device bank) = IsTrue (is_device device) × IsTrue (is_bank bank)
IsFormedDirectory (Line device bank line) = IsTrue (is_device device) × IsTrue (is_bank bank)
IsFormedDirectory (Hog device bank line) = IsTrue (is_device device) × IsTrue (is_bank bank)

abbrev pub IsFormedNode : Node → Type 0
IsFormedNode (DirectoryNode directory) = IsFormedDirectory directory
IsFormedNode (FileNode directory file) = IsFormedDirectory directory

abbrev pub IsFormedRow : TreeRow → Type 0
IsFormedRow (DeviceRow device state) = IsTrue (is_device device)
IsFormedRow (BankRow device bank lines label) = IsTrue (is_device device) × IsTrue (is_bank bank) × (1 ≤ lines) × (lines ≤ LINES_MAX)
IsFormedRow (LineRow device bank line name) = IsTrue (is_device device) × IsTrue (is_bank bank)
IsFormedRow (HogRow device bank line name way) = IsTrue (is_device device) × IsTrue (is_bank bank)
