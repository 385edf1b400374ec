-- The line that gpioget prints (libgpiod's manual page).
use Rattle.gl_args.specs.Options.{Options}
use Rattle.std.specs.Prelude.{ℕ, ◌+◌, Bool, nat_lt, ◌&&◌, if◌then◌else◌, List, [], ◌∷◌, ◌++◌, codes}
use Rattle.gl_base.specs.Bits.{has_bit}
use Rattle.gl_args.specs.Values.{Line}
use Rattle.gl_lines.specs.Texts.{quoted}

-- `"WORD"=active` or `"WORD"=inactive`, without quotes, or a digit alone
abbrev pub value_text : Options → List ℕ → Bool → List ℕ
value_text opts word active =
    if opts.numeric then (if active then codes "1" else codes "0")
    else quoted opts.unquoted word ++ (if active then codes "=active" else codes "=inactive")

-- a blank before each but the first
abbrev pub separator : ℕ → List ℕ
separator i = if nat_lt 0 i then 32 ∷ [] else []

-- the line at a place is active; a request has at most 64 lines
abbrev pub has_value : ℕ → ℕ → Bool
has_value bits i = nat_lt i 64 && has_bit bits i

-- the values of lines, the first of them at place i, separated by blanks
abbrev pub values_text : Options → ℕ → ℕ → List Line → List ℕ
values_text opts bits i [] = []
values_text opts bits i (line ∷ lines) = separator i ++ value_text opts line.0 (has_value bits i) ++ values_text opts bits (i + 1) lines
