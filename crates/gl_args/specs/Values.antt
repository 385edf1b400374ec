-- The values of options and the words of lines, by libgpiod's manual pages. The limits, and that gpioset's word is
-- divided at its last `=`, are this project's choice.
use Rattle.std.specs.Prelude.{ℕ, ◌+◌, ◌*◌, ◌^◌, Bool, true, false, not, ◌&&◌, ◌||◌, nat_lt, nat_le, if◌then◌else◌, List, [], ◌∷◌, is_some, codes, Option, Some, None}
use Rattle.std.specs.Char.{is_ascii_digit}
use Rattle.std.specs.List.{take_while}
use Rattle.std.specs.Str.{bytes_eq}
use Rattle.gl_base.specs.Decimal.{number_of_text}
use Rattle.gl_base.specs.Name.{is_name, name_of}
use Rattle.gl_base.specs.declared.flag.TheConstants.{BIAS_PULL_UP, BIAS_PULL_DOWN, BIAS_DISABLED, OPEN_DRAIN, OPEN_SOURCE, EDGE_RISING, EDGE_FALLING}
use Rattle.gl_args.specs.declared.names.ToolName.{ToolName}
use Rattle.gl_args.specs.declared.names.ToolName.TheVariants.{Set}
use Rattle.gl_args.specs.declared.names.OptionName.{OptionName}
use Rattle.gl_args.specs.declared.names.OptionName.TheVariants.{Chip, Bias, Drive, Period, Edges, Event, Count, Format, Consumer}
use Rattle.gl_args.specs.Cuts.{Halves, divided, unit_text}

abbrev pub is_empty : List ℕ → Bool
is_empty [] = true
is_empty (byte ∷ bytes) = false

-- 1 to 31 bytes, none of them 0
abbrev pub is_short_text : List ℕ → Bool
is_short_text text = not (is_empty text) && is_name text

-- the flag of a bias
abbrev pub bias_of : List ℕ → Option ℕ
bias_of word =
    if bytes_eq word (codes "pull-up") then Some (2 ^ BIAS_PULL_UP)
    else if bytes_eq word (codes "pull-down") then Some (2 ^ BIAS_PULL_DOWN)
    else if bytes_eq word (codes "disabled") then Some (2 ^ BIAS_DISABLED)
    else None

-- the flag of a drive; push-pull has none
abbrev pub drive_of : List ℕ → Option ℕ
drive_of word =
    if bytes_eq word (codes "push-pull") then Some 0
    else if bytes_eq word (codes "open-drain") then Some (2 ^ OPEN_DRAIN)
    else if bytes_eq word (codes "open-source") then Some (2 ^ OPEN_SOURCE)
    else None

-- the flags of edges
abbrev pub edges_of : List ℕ → Option ℕ
edges_of word =
    if bytes_eq word (codes "rising") then Some (2 ^ EDGE_RISING)
    else if bytes_eq word (codes "falling") then Some (2 ^ EDGE_FALLING)
    else if bytes_eq word (codes "both") then Some (2 ^ EDGE_RISING + 2 ^ EDGE_FALLING)
    else None

-- a kind of change as a bit, which is that of its number in `linux/gpio.h`: this project's choice
abbrev pub changes_of : List ℕ → Option ℕ
changes_of word =
    if bytes_eq word (codes "requested") then Some 2
    else if bytes_eq word (codes "released") then Some 4
    else if bytes_eq word (codes "reconfigured") then Some 8
    else None

-- how many microseconds a unit has; none is milliseconds
abbrev pub unit_of : List ℕ → Option ℕ
unit_of word =
    if is_empty word || bytes_eq word (codes "ms") then Some 1000
    else if bytes_eq word (codes "us") then Some 1
    else if bytes_eq word (codes "s") then Some 1000000
    else None

-- so many units, where 32 bits hold them
abbrev pub scaled : Option ℕ → Option ℕ → Option ℕ
scaled None unit = None
scaled (Some number) None = None
scaled (Some number) (Some unit) = if nat_lt (number * unit) (2 ^ 32) then Some (number * unit) else None

-- a period in microseconds: digits, and then a unit or nothing
abbrev pub period_of : List ℕ → Option ℕ
period_of text = scaled (number_of_text (take_while is_ascii_digit text)) (unit_of (unit_text text))

abbrev pub within_count : Option ℕ → Option ℕ
within_count None = None
within_count (Some n) = if nat_le 1 n && nat_le n 1000000 then Some n else None

-- a number of events
abbrev pub count_of : List ℕ → Option ℕ
count_of text = within_count (number_of_text text)

-- an option's value is right; one row an option
abbrev pub is_right : OptionName → List ℕ → Bool
is_right Chip text = is_short_text text
is_right Consumer text = is_short_text text
is_right Bias text = is_some (bias_of text)
is_right Drive text = is_some (drive_of text)
is_right Period text = is_some (period_of text)
is_right Edges text = is_some (edges_of text)
is_right Event text = is_some (changes_of text)
is_right Count text = is_some (count_of text)
is_right Format text = not (is_empty text)
is_right _ text = true

abbrev pub is_on : List ℕ → Bool
is_on word = bytes_eq word (codes "1") || bytes_eq word (codes "on") || bytes_eq word (codes "active") || bytes_eq word (codes "true")

abbrev pub is_off : List ℕ → Bool
is_off word = bytes_eq word (codes "0") || bytes_eq word (codes "off") || bytes_eq word (codes "inactive") || bytes_eq word (codes "false")

-- the value that a word of gpioset says
abbrev pub switch_of : List ℕ → Option Bool
switch_of word = if is_on word then Some true else if is_off word then Some false else None

-- a line's word, and the value that gpioset gives it; the other tools give none, which is false
abbrev pub Line : Type 0
Line = List ℕ × Bool

abbrev pub named_line : Option (List ℕ) → Bool → Option Line
named_line None value = None
named_line (Some name) value = Some (name, value)

abbrev pub value_line : List ℕ → Option Bool → Option Line
value_line line None = None
value_line line (Some value) = if is_empty line then None else named_line (name_of line) value

abbrev pub halves_line : Option Halves → Option Line
halves_line None = None
halves_line (Some halves) = value_line halves.0 (switch_of halves.1)

-- `LINE=VALUE`, divided at its last `=`
abbrev pub set_line : List ℕ → Option Line
set_line word = if is_name word then halves_line (divided 61 word) else None

-- the line and the value that a line word says, if the tool takes it
abbrev pub line_said : ToolName → List ℕ → Option Line
line_said Set word = set_line word
line_said _ word = named_line (name_of word) false
