-- Where the rows of a bank's lines stand among the rows of the tree, by the offsets of these lines.
use Rattle.std.specs.Prelude.{ℕ, ◌≡◌, ◌<◌, ◌&&◌, if◌then◌else◌, List, Option, Some, None, slice_get, slice_index_or, slice_set}
use Rattle.std.specs.Str.{bytes_eq}
use Rattle.gl_base.specs.declared.limits.TheConstants.{LINES_MAX}
use Rattle.gl_simtree.specs.declared.node.Directory.{Directory}
use Rattle.gl_simtree.specs.declared.row.TreeRow.{TreeRow}
use Rattle.gl_simtree.specs.declared.row.TreeRow.TheVariants.{Line as LineRow, Hog as HogRow}
use Rattle.gl_simtree.specs.Rows.{row_at}

-- the line of a row, if it is of the directory of a line of this bank
abbrev pub line_in : List ℕ → List ℕ → TreeRow → Option ℕ
line_in device bank (LineRow device' bank' line name) = if bytes_eq device device' && bytes_eq bank bank' then Some line else None
line_in device bank _ = None

-- the line of a row, if it is of the hog directory of a line of this bank
abbrev pub hog_in : List ℕ → List ℕ → TreeRow → Option ℕ
hog_in device bank (HogRow device' bank' line name way) = if bytes_eq device device' && bytes_eq bank bank' then Some line else None
hog_in device bank _ = None

-- the row of a line stands here
abbrev pub with_row : Option ℕ → ℕ → List (Option ℕ) → List (Option ℕ)
with_row None at found = found
with_row (Some line) at found = slice_set found line (Some at)

-- the row that stands where one was found
abbrev pub row_found : List TreeRow → Option ℕ → Option TreeRow
row_found rows None = None
row_found rows (Some at) = slice_get rows at

-- of each line's directory the first row among some of the rows was found
abbrev pub AreFound : (ℕ → Directory) → List TreeRow → List TreeRow → List (Option ℕ) → Type 0
AreFound directory rows some found =
    (line : ℕ) → line < LINES_MAX → row_found rows (slice_index_or found line None) ≡ row_at (directory line) some
