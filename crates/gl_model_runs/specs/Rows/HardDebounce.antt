-- A driver that debounces lines by itself: the bits that it answers a request say which. An edge of such a line is an event at
-- once, and no deadline runs; its value is that of its level. The mark goes by the line's position in the request, is for lines
-- with a period alone, and ends with the request. Where it changes, the line settles anew.
use Rattle.std.specs.Prelude.{ℕ, Bool, List, [], ◌∷◌, ◌++◌, codes, true, false, Some}
use Rattle.gl_base.specs.declared.errno.Errno.TheVariants.{Again}
use Rattle.gl_uapi.specs.Fields.{number_bytes, zeros}
use Rattle.gl_uapi.specs.declared.commands.Command.TheVariants.{GetLine, GetValues, LineInfo, SetConfig}
use Rattle.gl_model.specs.declared.call.Call.TheVariants.{Close, ReadEdges, Tick}
use Rattle.gl_model.specs.declared.call.Part.TheVariants.{Ask, Tell, Whole}
use Rattle.gl_model.specs.declared.reply.Reply.TheVariants.{Done, Go, Refused}
use Rattle.gl_model_runs.specs.Rows.Structures.{answers_in, attribute, by, calls_in, command, config, debounced, does, event, fails, four_lines, four_lines_given, gives, info, pulls, request, ticks, values}
use Rattle.gl_model_runs.specs.Run.{Answer, Made, says, shows}

-- both edges of line 0, which is debounced with 1000 microseconds
abbrev pub one_line : ℕ → List ℕ
one_line fd = request [] (debounced 0x34) 1 0 fd

-- both edges of lines 3, 2 and 1; the first two are debounced with 1000 microseconds
abbrev pub three_lines : ℕ → List ℕ
three_lines fd = request (3 ∷ 2 ∷ 1 ∷ []) (config 0x34 (attribute 3 1000 0x3 ∷ [])) 3 0 fd

-- lines are requested, the driver answers these bits, and the request has this number
abbrev pub requests_with : ℕ → (ℕ → List ℕ) → ℕ → List (Made × Answer)
requests_with bits asked fd =
    (command 3 GetLine (asked 0) Ask, says (Go fd)) ∷ (command 3 GetLine (asked 0) (Tell (Some bits)), gives fd (asked fd)) ∷ []

-- a request is configured anew, and the driver answers these bits
abbrev pub configures_with : ℕ → ℕ → List ℕ → List (Made × Answer)
configures_with bits fd configuration =
    (command fd SetConfig configuration Ask, says (Go 0)) ∷ (command fd SetConfig configuration (Tell (Some bits)), says Done) ∷ []

-- the values of the request of lines 3, 2 and 1
abbrev pub has_values : ℕ → ℕ → List (Made × Answer)
has_values fd bits =
    (command fd GetValues (values 0 0x7) Ask, says (Go 0)) ∷ (command fd GetValues (values 0 0x7) (Tell (Some 0)), shows (values bits 0x7)) ∷ []

-- events of a request are read
abbrev pub reads : ℕ → ℕ → List ℕ → Made × Answer
reads fd number bytes = (by 0 (ReadEdges 0 fd 480), gives number bytes)

-- The driver debounces line 0. It rises, which is an event at once; the information has its period as ever; no deadline comes.
abbrev pub at_once : List (Made × Answer)
at_once =
    requests_with 0x1 one_line 4
    ++ pulls 0 true
    ∷ reads 4 48 (event 0 1 0 1 1)
    ∷ (command 3 LineInfo (info [] 0 0) Whole, shows (zeros 32 ++ codes "?" ++ zeros 35 ++ number_bytes 4 1 ++ number_bytes 8 0x35 ++ attribute 3 1000 0 ++ zeros 152))
    ∷ ticks 9_000_000 0
    ∷ fails (ReadEdges 0 4 48) Again
    ∷ []

-- It is let go of, and requested again. Now the driver answers no bit: its fall is an event at its deadline.
abbrev pub later : List (Made × Answer)
later =
    does (Close 4)
    ∷ requests_with 0 one_line 5
    ++ pulls 0 false
    ∷ fails (ReadEdges 0 5 48) Again
    ∷ ticks 10_000_000 0
    ∷ reads 5 48 (event 10_000_000 2 0 1 1)
    ∷ []

-- Of lines 3, 2 and 1 the driver debounces the second, which is line 2, and would the third, which has no period. All rise: line
-- 2 and line 1 at once. Line 3 has still settled low.
abbrev pub by_position : List (Made × Answer)
by_position =
    requests_with 0x6 three_lines 6
    ++ pulls 3 true
    ∷ pulls 2 true
    ∷ pulls 1 true
    ∷ reads 6 96 (event 10_000_000 1 2 1 1 ++ event 10_000_000 1 1 2 1)
    ∷ has_values 6 0x6

-- Before line 3 has settled the same configuration comes once more, and the driver debounces the first in place of the second. So
-- each settles at its level, and no deadline runs: line 3 falls at once, and line 2 at its deadline.
abbrev pub mark_changes : List (Made × Answer)
mark_changes =
    configures_with 0x1 6 (config 0x34 (attribute 3 1000 0x3 ∷ []))
    ++ has_values 6 0x7
    ++ ticks 12_000_000 0
    ∷ fails (ReadEdges 0 6 48) Again
    ∷ pulls 3 false
    ∷ pulls 2 false
    ∷ reads 6 48 (event 12_000_000 2 3 3 1)
    ∷ has_values 6 0x6
    ++ ticks 13_000_000 0
    ∷ reads 6 48 (event 13_000_000 2 2 4 2)
    ∷ []

-- A configuration without a direction for the first two lines leaves them as they are, whatever the driver answers.
abbrev pub mark_stays : List (Made × Answer)
mark_stays =
    configures_with 0x2 6 (config 0x4 (attribute 1 0x0 0x3 ∷ []))
    ++ pulls 3 true
    ∷ pulls 2 true
    ∷ reads 6 48 (event 13_000_000 1 3 5 2)
    ∷ ticks 14_000_000 0
    ∷ reads 6 48 (event 14_000_000 1 2 6 3)
    ∷ []

abbrev pub exchanges : List (Made × Answer)
exchanges = at_once ++ later ++ by_position ++ mark_changes ++ mark_stays

unfoldable pub run : List Made
run = four_lines ++ calls_in exchanges

unfoldable pub given : List Answer
given = four_lines_given ++ answers_in exchanges
