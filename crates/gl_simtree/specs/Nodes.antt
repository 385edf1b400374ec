-- What a path names (the kernel's document on gpio-sim has the files; the forms of the parts are this project's choice).
use Rattle.std.specs.Prelude.{ℕ, ◌&&◌, if◌then◌else◌, nat_le, nat_eq, List, length, drop, Option, Some, None, codes}
use Rattle.std.specs.List.{starts_with}
use Rattle.std.specs.Str.{bytes_eq}
use Rattle.gl_base.specs.Decimal.{plain_number_of_text}
use Rattle.gl_simtree.specs.Cuts.{before_slash, behind_slash}
use Rattle.gl_simtree.specs.Forms.{device_name, bank_name}
use Rattle.gl_simtree.specs.declared.node.Directory.TheVariants.{Device, Bank, Line, Hog}
use Rattle.gl_simtree.specs.declared.node.File.TheVariants.{Live, ChipName, NumLines, Label, LineName, HogName, Direction}
use Rattle.gl_simtree.specs.declared.node.Node.{Node}
use Rattle.gl_simtree.specs.declared.node.Node.TheVariants.{Directory as DirectoryNode, File as FileNode}

-- the number N of `lineN`: a decimal of 1 to 4 digits without a leading zero
abbrev pub line_number : List ℕ → Option ℕ
line_number part =
    if starts_with nat_eq part (codes "line") && nat_le (length part) 8 then plain_number_of_text (drop 4 part) else None

-- `DEV/BANK/lineN/hog/..`
abbrev pub in_hog : List ℕ → List ℕ → ℕ → List ℕ → Option Node
in_hog device bank line path =
    if bytes_eq path (codes "name") then Some (FileNode (Hog device bank line) HogName)
    else if bytes_eq path (codes "direction") then Some (FileNode (Hog device bank line) Direction)
    else None

-- `DEV/BANK/lineN/..`, whose next part and the rest behind it are given
abbrev pub in_line : List ℕ → List ℕ → ℕ → List ℕ → Option (List ℕ) → Option Node
in_line device bank line part None =
    if bytes_eq part (codes "name") then Some (FileNode (Line device bank line) LineName)
    else if bytes_eq part (codes "hog") then Some (DirectoryNode (Hog device bank line))
    else None
in_line device bank line part (Some rest) = if bytes_eq part (codes "hog") then in_hog device bank line rest else None

-- `DEV/BANK/lineN` or what is in it
abbrev pub of_line : List ℕ → List ℕ → Option ℕ → Option (List ℕ) → Option Node
of_line device bank None rest = None
of_line device bank (Some line) None = Some (DirectoryNode (Line device bank line))
of_line device bank (Some line) (Some rest) = in_line device bank line (before_slash rest) (behind_slash rest)

-- `DEV/BANK/..`
abbrev pub in_bank : List ℕ → List ℕ → List ℕ → Option Node
in_bank device bank path =
    if bytes_eq path (codes "chip_name") then Some (FileNode (Bank device bank) ChipName)
    else if bytes_eq path (codes "num_lines") then Some (FileNode (Bank device bank) NumLines)
    else if bytes_eq path (codes "label") then Some (FileNode (Bank device bank) Label)
    else of_line device bank (line_number (before_slash path)) (behind_slash path)

-- `DEV/BANK` or what is in it
abbrev pub of_bank : List ℕ → Option (List ℕ) → Option (List ℕ) → Option Node
of_bank device None rest = None
of_bank device (Some bank) None = Some (DirectoryNode (Bank device bank))
of_bank device (Some bank) (Some rest) = in_bank device bank rest

-- `DEV/..`
abbrev pub in_device : List ℕ → List ℕ → Option Node
in_device device path =
    if bytes_eq path (codes "live") then Some (FileNode (Device device) Live)
    else of_bank device (bank_name (before_slash path)) (behind_slash path)

-- `DEV` or what is in it
abbrev pub of_device : Option (List ℕ) → Option (List ℕ) → Option Node
of_device None rest = None
of_device (Some device) None = Some (DirectoryNode (Device device))
of_device (Some device) (Some rest) = in_device device rest

-- what a path names, if anything
abbrev pub node_at : List ℕ → Option Node
node_at path = of_device (device_name (before_slash path)) (behind_slash path)
