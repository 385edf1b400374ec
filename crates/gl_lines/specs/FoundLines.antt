-- The lines that a tool found: this project's choice.
use Rattle.std.specs.Prelude.{ℕ, Bool, false, not, nat_eq, List, [], ◌∷◌, map}
use Rattle.std.specs.List.{list_all}
use Rattle.gl_lines.specs.declared.found_line.FoundLine.{FoundLine}

abbrev pub is_at : ℕ → FoundLine → Bool
is_at place line = nat_eq line.place place

-- lines are of two chips
abbrev pub are_apart : List FoundLine → Bool
are_apart [] = false
are_apart (line ∷ lines) = not (list_all (is_at line.place) lines)

-- the place of the chip of lines; 0 where there are none
abbrev pub place_of : List FoundLine → ℕ
place_of [] = 0
place_of (line ∷ lines) = line.place

-- the offsets of lines
abbrev pub offsets_of : List FoundLine → List ℕ
offsets_of lines = map (λ line. line.offset) lines
