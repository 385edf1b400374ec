-- The lines of a bank, one offset after another.
use Rattle.std.proofs.Common.{◌≡◌, ℕ, suc, ◌+◌, ◌-◌, ◌<◌, List, ◌++◌, ap, arith}
use Rattle.gl_simtree.specs.declared.row.TreeRow.{TreeRow}
use Rattle.gl_simtree.specs.declared.node.Directory.TheVariants.{Line, Hog}
use Rattle.gl_simtree.specs.Rows.{row_at}
use Rattle.gl_simtree.specs.Plans.{line_name, line_hog, names_from, hogs_from}

pub names_from_more : (device bank : List ℕ) (rows : List TreeRow) (offset lines : ℕ) → offset < lines → names_from device bank rows offset (lines - offset) ≡ line_name (row_at (Line device bank offset) rows) ++ names_from device bank rows (offset + 1) (lines - (offset + 1))
names_from_more device bank rows offset lines lt = let more : lines - offset ≡ suc (lines - (offset + 1)) = omega arith in ap (names_from device bank rows offset) more

pub hogs_from_more : (device bank : List ℕ) (rows : List TreeRow) (offset lines : ℕ) → offset < lines → hogs_from device bank rows offset (lines - offset) ≡ line_hog (row_at (Hog device bank offset) rows) ++ hogs_from device bank rows (offset + 1) (lines - (offset + 1))
hogs_from_more device bank rows offset lines lt = let more : lines - offset ≡ suc (lines - (offset + 1)) = omega arith in ap (hogs_from device bank rows offset) more
