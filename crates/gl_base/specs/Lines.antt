-- The lines that a request names.
use Rattle.std.specs.Prelude.{ℕ, ◌<◌, ◌≤◌, List, take}
use Rattle.gl_base.specs.declared.limits.TheConstants.{LINES_PER_REQUEST}
use Rattle.gl_base.specs.declared.lines.Lines.{Lines}

-- a request may have so many lines: 1 to 64
abbrev pub IsLineCount : ℕ → Type 0
IsLineCount count = (0 < count) × (count ≤ LINES_PER_REQUEST)

-- the offsets of the lines, in the order of the request
abbrev pub offsets_of : Lines → List ℕ
offsets_of lines = take lines.count lines.offsets
