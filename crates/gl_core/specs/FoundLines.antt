-- Lines that were found one after the other: the first of them, and how many there are.
use Rattle.std.specs.Prelude.{ℕ, ◌+◌, List, [], ◌∷◌, length, Option, Some, None}
use Rattle.std.specs.Option.{option_or}
use Rattle.gl_core.specs.declared.finding.LinesFound.{LinesFound}

-- the first of some lines
abbrev pub first_of_lines : List (ℕ × ℕ) → Option (ℕ × ℕ)
first_of_lines [] = None
first_of_lines (line ∷ lines) = Some line

-- what is kept of some lines that were found
abbrev pub found_of : List (ℕ × ℕ) → LinesFound
found_of lines = record { first = first_of_lines lines; count = length lines }

-- one line more was found after the others
abbrev pub with_line : ℕ × ℕ → LinesFound → LinesFound
with_line line found = record { first = option_or found.first (Some line); count = found.count + 1 }

-- some lines more were found, in order
abbrev pub with_lines : List (ℕ × ℕ) → LinesFound → LinesFound
with_lines [] found = found
with_lines (line ∷ lines) found = with_lines lines (with_line line found)
