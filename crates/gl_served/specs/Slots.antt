-- The slots of a statement's own, a pair for each: its first statements have pairs of their own, as those of a session have, and from
-- then on each has the lowest pair in which no file is open. Slots are names inside a session alone. This project's choice.
use Rattle.std.specs.Prelude.{ℕ, zero, suc, ◌+◌, ◌/◌, ◌==◌, Bool, nat_lt, if◌then◌else◌, List, length, Option, None, Some}
use Rattle.std.specs.List.{list_any}
use Rattle.gl_asking.specs.Files.{OpenFile}
use Rattle.gl_talk.specs.Talk.{slot_behind}
use Rattle.gl_served.specs.declared.limits.TheConstants.{PAIRS}

-- a file is open in one of the two slots of a pair
abbrev pub is_in_pair : ℕ → OpenFile → Bool
is_in_pair pair file = file.slot / 2 == pair + 1

abbrev pub is_taken : ℕ → List OpenFile → Bool
is_taken pair files = list_any (is_in_pair pair) files

-- the first of so many pairs, from one on, in which no file is open
abbrev pub first_free : ℕ → ℕ → List OpenFile → Option ℕ
first_free zero pair files = None
first_free (suc count) pair files = if is_taken pair files then first_free count (pair + 1) files else Some pair

-- a pair whose slots have 32 bits
abbrev pub within_pairs : Option ℕ → Option ℕ
within_pairs None = None
within_pairs (Some pair) = if nat_lt pair PAIRS then Some pair else None

-- the lowest free one: of one pair more than there are open files one is free
abbrev pub lowest_free : List OpenFile → Option ℕ
lowest_free files = within_pairs (first_free (suc (length files)) 0 files)

-- the pair of the statement after so many others, where these files are open
abbrev pub pair_behind : ℕ → List OpenFile → Option ℕ
pair_behind count files = if nat_lt count PAIRS then Some count else lowest_free files

-- its first slot
abbrev pub slot_of : Option ℕ → ℕ
slot_of None = 0
slot_of (Some pair) = slot_behind pair
