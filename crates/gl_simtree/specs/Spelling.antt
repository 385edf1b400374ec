-- How directories and files are spelled as paths, part by part. 47 is `/`.
use Rattle.std.specs.Prelude.{◌≡◌, ℕ, List, ◌∷◌, ◌++◌, Some, codes}
use Rattle.gl_base.specs.Decimal.{decimal}
use Rattle.gl_simtree.specs.Nodes.{node_at}
use Rattle.gl_simtree.specs.declared.node.Directory.{Directory}
use Rattle.gl_simtree.specs.declared.node.Directory.TheVariants.{Device, Bank, Line, Hog}
use Rattle.gl_simtree.specs.declared.node.File.{File}
use Rattle.gl_simtree.specs.declared.node.File.TheVariants.{Live, ChipName, NumLines, Label, LineName, HogName, Direction}
use Rattle.gl_simtree.specs.declared.node.Node.{Node}
use Rattle.gl_simtree.specs.declared.node.Node.TheVariants.{Directory as DirectoryNode, File as FileNode}

-- a part, and the rest below it
abbrev pub below : List ℕ → List ℕ → List ℕ
below part rest = part ++ 47 ∷ rest

-- `lineN`
abbrev pub line_part : ℕ → List ℕ
line_part line = codes "line" ++ decimal line

abbrev pub directory_path : Directory → List ℕ
directory_path (Device device) = device
directory_path (Bank device bank) = below device bank
directory_path (Line device bank line) = below device (below bank (line_part line))
directory_path (Hog device bank line) = below device (below bank (below (line_part line) (codes "hog")))

-- a path below a directory
abbrev pub path_below : Directory → List ℕ → List ℕ
path_below (Device device) rest = below device rest
path_below (Bank device bank) rest = below device (below bank rest)
path_below (Line device bank line) rest = below device (below bank (below (line_part line) rest))
path_below (Hog device bank line) rest = below device (below bank (below (line_part line) (below (codes "hog") rest)))

abbrev pub file_part : File → List ℕ
file_part Live = codes "live"
file_part ChipName = codes "chip_name"
file_part NumLines = codes "num_lines"
file_part Label = codes "label"
file_part LineName = codes "name"
file_part HogName = codes "name"
file_part Direction = codes "direction"

abbrev pub node_path : Node → List ℕ
node_path (DirectoryNode directory) = directory_path directory
node_path (FileNode directory file) = path_below directory (file_part file)

-- a path names one thing at most, and this thing has no other path
abbrev pub PathsAreSpelled : Type 0
PathsAreSpelled = (path : List ℕ) (node : Node) → node_at path ≡ Some node → path ≡ node_path node
