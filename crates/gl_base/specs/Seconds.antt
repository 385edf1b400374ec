-- Numbers in columns, and times in seconds, as libgpiod's manual pages show them. That a time has nine digits behind
-- its point is this project's choice.
use Rattle.std.specs.Prelude.{ℕ, ◌-◌, ◌/◌, ◌%◌, List, ◌∷◌, ◌++◌, length, replicate}
use Rattle.gl_base.specs.Decimal.{decimal}

-- a text in so many columns, with the byte `fill` before it; a longer text is written whole
abbrev pub right_justified : ℕ → ℕ → List ℕ → List ℕ
right_justified columns fill text = replicate (columns - length text) fill ++ text

-- so many nanoseconds in seconds, with nine digits behind the point; 46 is `.` and 48 is `0`
abbrev pub seconds_text : ℕ → List ℕ
seconds_text ns = decimal (ns / 1000000000) ++ (46 ∷ right_justified 9 48 (decimal (ns % 1000000000)))
