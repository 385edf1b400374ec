-- What gpioinfo prints for a line (libgpiod's manual page). That a period is printed in microseconds, and that quotes count
-- towards a name's columns, is this project's choice.
use Rattle.std.specs.Prelude.{ℕ, ◌-◌, Bool, ◌&&◌, ◌==◌, if◌then◌else◌, List, [], ◌∷◌, ◌++◌, length, replicate, codes}
use Rattle.gl_base.specs.Bits.{has_bit}
use Rattle.gl_base.specs.Decimal.{decimal}
use Rattle.gl_base.specs.Seconds.{right_justified}
use Rattle.gl_base.specs.declared.flag.TheConstants.{USED, ACTIVE_LOW, OUTPUT, EDGE_RISING, EDGE_FALLING, OPEN_DRAIN, OPEN_SOURCE, BIAS_PULL_UP, BIAS_PULL_DOWN, BIAS_DISABLED, EVENT_CLOCK_REALTIME}
use Rattle.gl_uapi.specs.declared.line_infos.Info.{Info}
use Rattle.gl_lines.specs.Texts.{quoted}

-- a text in so many columns, with blanks after it; a longer text is written whole
abbrev pub left_justified : ℕ → List ℕ → List ℕ
left_justified columns text = text ++ replicate (columns - length text) 32

abbrev pub offset_text : ℕ → List ℕ
offset_text offset = right_justified 3 32 (decimal offset)

abbrev pub name_text : Bool → List ℕ → List ℕ
name_text unquoted [] = codes "unnamed"
name_text unquoted (byte ∷ bytes) = quoted unquoted (byte ∷ bytes)

abbrev pub direction_text : ℕ → List ℕ
direction_text flags = if has_bit flags OUTPUT then codes "output" else codes "input"

abbrev pub active_low_text : ℕ → List ℕ
active_low_text flags = if has_bit flags ACTIVE_LOW then codes " active-low" else []

abbrev pub drive_text : ℕ → List ℕ
drive_text flags =
    if has_bit flags OPEN_DRAIN then codes " drive=open-drain" else if has_bit flags OPEN_SOURCE then codes " drive=open-source" else []

abbrev pub bias_text : ℕ → List ℕ
bias_text flags =
    if has_bit flags BIAS_PULL_UP then codes " bias=pull-up"
    else if has_bit flags BIAS_PULL_DOWN then codes " bias=pull-down"
    else if has_bit flags BIAS_DISABLED then codes " bias=disabled"
    else []

abbrev pub is_both : ℕ → Bool
is_both flags = has_bit flags EDGE_RISING && has_bit flags EDGE_FALLING

abbrev pub edges_text : ℕ → List ℕ
edges_text flags =
    if is_both flags then codes " edges=both"
    else if has_bit flags EDGE_RISING then codes " edges=rising"
    else if has_bit flags EDGE_FALLING then codes " edges=falling"
    else []

abbrev pub clock_text : ℕ → List ℕ
clock_text flags = if has_bit flags EVENT_CLOCK_REALTIME then codes " event-clock=realtime" else []

abbrev pub microseconds_text : ℕ → List ℕ
microseconds_text period = decimal period ++ codes "us"

abbrev pub some_period_text : ℕ → List ℕ
some_period_text period = codes " debounce-period=" ++ microseconds_text period

abbrev pub period_text : ℕ → List ℕ
period_text period = if period == 0 then [] else some_period_text period

abbrev pub consumer_text : Bool → List ℕ → List ℕ
consumer_text unquoted [] = codes " used"
consumer_text unquoted (byte ∷ bytes) = codes " consumer=" ++ quoted unquoted (byte ∷ bytes)

-- who uses the line, if it is used
abbrev pub user_text : Bool → Info → List ℕ
user_text unquoted info = if has_bit info.flags USED then consumer_text unquoted info.consumer else []

-- the words on how a line is used, separated by blanks
abbrev pub words_text : Bool → Info → List ℕ
words_text unquoted info =
    direction_text info.flags ++ active_low_text info.flags ++ drive_text info.flags ++ bias_text info.flags ++ edges_text info.flags
    ++ clock_text info.flags ++ period_text info.period ++ user_text unquoted info

-- a tab, `line`, the offset in three columns, `:`, a tab, the name in 16 columns, a tab, and the words
abbrev pub line_text : Bool → ℕ → Info → List ℕ
line_text unquoted offset info =
    9 ∷ codes "line " ++ offset_text offset ++ (58 ∷ 9 ∷ []) ++ left_justified 16 (name_text unquoted info.name) ++ (9 ∷ [])
    ++ words_text unquoted info ++ (10 ∷ [])
