-- The row of a file that was found.
use Rattle.std.proofs.Common.{ℕ, Bool, ◌≡◌, List, get_or, set, Some, ap, sym, ◌∙◌}
use Rattle.std.specs.List.{position}
use Rattle.gl_base.specs.Rows.{change_first}
use Rattle.gl_base.proofs.FirstRows.{at_position, change_first-no_position, change_first-position, find-no_position, find-position, length-change_first}
use Rattle.gl_watch.specs.declared.file.ChipFile.{ChipFile}

-- the row that was read at the position of the first that passes
pub change_first-read : (test : ChipFile → Bool) (f : ChipFile → ChipFile) (files : List ChipFile) (i : ℕ) (file : ChipFile) → position test files ≡ Some i → file ≡ get_or files i file
    → change_first test f files ≡ set files i (f file)
change_first-read test f files i file at read = change_first-position test f files i file at ∙ ap (λ (x : ChipFile). set files i (f x)) (sym read)

pub ruleset found = (at_position, change_first-read, change_first-no_position, find-position, find-no_position, length-change_first)
