-- The history at the end of an output, read: the last line that begins with `== history ` tells how many entries there are, and these
-- stand in the lines after it, one a line and nothing more. Every line ends with 0x0A. This project's choice.
use Rattle.std.specs.Prelude.{◌≡◌, ℕ, zero, suc, ◌+◌, ◌≤◌, Bool, true, false, ◌&&◌, ◌==◌, nat_eq, if◌then◌else◌, List, [], ◌∷◌, ◌++◌, length, take, drop, option_map, Option, None, Some, codes}
use Rattle.std.specs.List.{starts_with}
use Rattle.gl_base.specs.TextLines.{ends_lines}
use Rattle.gl_base.specs.Words.{pieces}
use Rattle.gl_base.specs.declared.limits.TheConstants.{COST_MAX}
use Rattle.gl_world.specs.History.{entry}
use Rattle.gl_core.specs.Device.{OneEntry}
use Rattle.gl_trace.specs.EntryRead.{Read, read_of}
use Rattle.gl_trace.specs.HistoryText.{AreTold, history_text}
use Rattle.gl_trace.specs.WordRead.{number_below, stripped}

-- what the line above the entries begins with
abbrev pub history_head : List ℕ
history_head = codes "== history "

-- a later place, or else this one
abbrev pub later_or : Option ℕ → Option ℕ → Option ℕ
later_or None found = found
later_or (Some at) found = Some at

-- the front of a text is the head of a history: a line begins there, and begins so
abbrev pub is_head : Bool → List ℕ → Bool
is_head starts text = starts && starts_with nat_eq text history_head

abbrev pub here_if : Bool → Option ℕ
here_if true = Some 0
here_if false = None

-- where the last line begins that begins so; a line begins at the front, or doesn't
abbrev pub last_head : Bool → List ℕ → Option ℕ
last_head starts [] = None
last_head starts (byte ∷ text) = later_or (option_map suc (last_head (byte == 10) text)) (here_if (is_head starts (byte ∷ text)))

-- how many lines there are; of the pieces between the ends of lines the last one counts where it has a byte
abbrev pub one_line : List ℕ → List (List ℕ) → ℕ
one_line [] [] = 0
one_line line more = 1

abbrev pub line_count : List (List ℕ) → ℕ
line_count [] = 0
line_count (line ∷ more) = one_line line more + line_count more

-- the number of the line after a text's, counted from 1
abbrev pub next_line : List ℕ → ℕ
next_line text = line_count (pieces 10 text) + 1

-- the entry that was read, where its index is this one
abbrev pub entry_by : ℕ → Option Read → Option OneEntry
entry_by index None = None
entry_by index (Some r) = if r.index == index then Some (entry r.actor r.call r.reply) else None

-- the entry of an index that a line is, if it is one
abbrev pub entry_at : ℕ → List ℕ → Option OneEntry
entry_at index line = entry_by index (read_of line)

-- the entries that lines are, or the number of the first line that is at fault
pub data Lines : Type 0 where
  Whole : List OneEntry → Lines
  Broken : ℕ → Lines

abbrev pub in_front : List OneEntry → Lines → Lines
in_front front (Whole entries) = Whole (front ++ entries)
in_front front (Broken line) = Broken line

abbrev pub behind_line : ℕ → Option OneEntry → Lines → Lines
behind_line line None more = Broken line
behind_line line (Some e) more = in_front (e ∷ []) more

-- The lines from the one of this number on, which are to be just so many entries from this index on. What stands after the last end of
-- a line is the last piece: there is nothing, or it is a line without its end.
abbrev pub lines_read : ℕ → ℕ → ℕ → List (List ℕ) → Lines
lines_read line index zero ([] ∷ []) = Whole []
lines_read line index zero _ = Broken line
lines_read line index (suc count) (text ∷ next ∷ more) = behind_line line (entry_at index text) (lines_read (line + 1) (index + 1) count (next ∷ more))
lines_read line index (suc count) _ = Broken line

-- what stands in front of an output's history, and its entries; or the number of the first line that is at fault
pub data History : Type 0 where
  Good : List ℕ → List OneEntry → History
  Bad : ℕ → History

abbrev pub of_lines : List ℕ → Lines → History
of_lines front (Whole entries) = Good front entries
of_lines front (Broken line) = Bad line

-- how many entries the line above them tells, where it tells it: a decimal without leading zeros
abbrev pub count_by : Option (List ℕ) → Option ℕ
count_by None = None
count_by (Some number) = number_below (COST_MAX + 1) number

abbrev pub count_told : List ℕ → Option ℕ
count_told head = count_by (stripped history_head head)

abbrev pub counted : ℕ → List ℕ → Option ℕ → List (List ℕ) → History
counted line front None more = Bad line
counted line front (Some count) more = of_lines front (lines_read (line + 1) 0 count more)

-- the lines from the one above the entries on, which has this number
abbrev pub history_from : ℕ → List ℕ → List (List ℕ) → History
history_from line front (head ∷ next ∷ more) = counted line front (count_told head) (next ∷ more)
history_from line front _ = Bad line

abbrev pub history_by : Option ℕ → List ℕ → History
history_by None output = Bad (next_line output)
history_by (Some at) output = history_from (next_line (take at output)) (take at output) (pieces 10 (drop at output))

-- the history at the end of an output; where no line begins so, the line after the last one is missing
abbrev pub history_in : List ℕ → History
history_in output = history_by (last_head true output) output

-- What is written is read: after whole lines a history's text is read as it is, where it isn't longer than a session's may be.
abbrev pub HistoriesAreReadBack : Type 0
HistoriesAreReadBack = (front : List ℕ) (history : List OneEntry) → ends_lines front ≡ true → length history ≤ COST_MAX → AreTold 0 history
    → history_in (front ++ history_text history) ≡ Good front history

-- And what is read is what would be written: whole lines, and after them the text of no more entries than a session may cost.
abbrev pub HistoriesAreReadAlone : Type 0
HistoriesAreReadAlone = (output front : List ℕ) (history : List OneEntry) → history_in output ≡ Good front history
    → (output ≡ front ++ history_text history) × (ends_lines front ≡ true) × (length history ≤ COST_MAX)
