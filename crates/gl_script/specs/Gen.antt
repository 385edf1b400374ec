-- A load: for each number a session of so many turns, each of which tells the time, pulls a line, reads a value and now and
-- then reads events. Which lines come is as good as random, and always the same of one number. This project's choice.
use Rattle.std.specs.Prelude.{ℕ, zero, suc, ◌+◌, ◌*◌, ◌/◌, ◌%◌, ◌^◌, ◌≤◌, Bool, ◌==◌, if◌then◌else◌, List, [], ◌∷◌, ◌++◌, codes}
use Rattle.gl_base.specs.Decimal.{decimal}
use Rattle.gl_base.specs.declared.limits.TheConstants.{COST_MAX}
use Rattle.gl_script.specs.Cost.{session_cost}
use Rattle.gl_script.specs.Sentence.{Sentence, sections_said}

-- the number of a turn, from that of the turn before
abbrev pub next_number : ℕ → ℕ
next_number x = (x * 1103515245 + 12345) % 2 ^ 31

-- the line that is pulled in a turn of this number
abbrev pub line_pulled : ℕ → ℕ
line_pulled x = x / 65536 % 16

-- it is pulled up
abbrev pub is_up : ℕ → Bool
is_up x = x / 4194304 % 2 == 1

-- the time of a turn, counted from 1
abbrev pub clock_line : ℕ → List ℕ
clock_line k = codes "clock " ++ (decimal (1000 * k) ++ codes " 0")

abbrev pub pull_end : Bool → List ℕ
pull_end up = if up then codes "/pull pull-up" else codes "/pull pull-down"

abbrev pub pull_line : ℕ → List ℕ
pull_line x = codes "write gpiochip0/sim_gpio" ++ (decimal (line_pulled x) ++ pull_end (is_up x))

-- one of the lines 8 to 15, which nobody requests
abbrev pub get_line : ℕ → List ℕ
get_line x = codes "gpioget -c 0 " ++ decimal (8 + line_pulled x % 8)

abbrev pub events_line : List ℕ
events_line = codes "events R 6144"

-- events are read at each sixteenth turn
abbrev pub events_at : ℕ → List (List ℕ)
events_at k = if k % 16 == 0 then (events_line ∷ []) else []

-- the lines of a turn
abbrev pub turn : ℕ → ℕ → List (List ℕ)
turn k x = clock_line k ∷ pull_line x ∷ get_line x ∷ events_at k

-- the lines of so many turns from turn k on, behind one of this number
abbrev pub turns : ℕ → ℕ → ℕ → List (List ℕ)
turns k x zero = []
turns k x (suc count) = turn k (next_number x) ++ turns (k + 1) (next_number x) count

-- what comes before: a chip of 64 lines, and a request of its first eight whose edges are told, with a buffer of 128 events
abbrev pub request_line : List ℕ
request_line =
    codes "ioctl A GET_LINE 00000000 01000000 02000000 03000000 04000000 05000000 06000000 07000000 00*256 34 00*271 08000000 00*28 as R"

abbrev pub head_lines : List (List ℕ)
head_lines = codes "session 1" ∷ codes "setup" ∷ codes "probe gen 64" ∷ codes "open A 0" ∷ request_line ∷ []

abbrev pub load_lines : ℕ → List (List ℕ)
load_lines n = head_lines ++ (turns 1 n n ++ events_line ∷ [])

-- lines, each with its end
abbrev pub text_of : List (List ℕ) → List ℕ
text_of [] = []
text_of (line ∷ lines) = line ++ 10 ∷ text_of lines

-- the load of a number
abbrev pub load_text : ℕ → List ℕ
load_text n = text_of (load_lines n)

-- bytes say a session, and what it costs is within the limit
abbrev pub IsSession : List ℕ → Type 0
IsSession bytes = Sentence bytes (sections_said bytes) × (session_cost (sections_said bytes) ≤ COST_MAX)
