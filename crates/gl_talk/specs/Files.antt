-- Which slots the files of a talk are in, and how many entries its parts make. Each operation of a talk finds its file, however it
-- is answered. This project's choice.
use Rattle.std.specs.Prelude.{◌≡◌, ℕ, ◌+◌, ◌<◌, true, List, [], length, sum_by}
use Rattle.gl_base.specs.Words.{Span}
use Rattle.gl_client.specs.Entries.{EntriesLeave}
use Rattle.gl_client.specs.OpenSlots.{AreApart, NamesOpenSlots, SameSlots, is_open}
use Rattle.gl_client.specs.Program.{done}
use Rattle.gl_script.specs.Cost.{words_cost}
use Rattle.gl_talk.specs.Open.{Names, no_names, open_slots, setup_names}
use Rattle.gl_talk.specs.Talk.{quits, says, slot_behind, talks}

-- These slots are open where a talk has begun so many statements and has these names: they are those of its files and tools,
-- each once, and all of statements that were begun.
pub record AreOpen (begun : ℕ) (names : Names) (slots : List ℕ) : Type 0 where
  pub same : SameSlots slots (open_slots names)
  pub apart : AreApart slots
  pub below : (slot : ℕ) → is_open slot slots ≡ true → slot < slot_behind begun

-- no slot is open after a talk
abbrev pub AllClosed : Names → List ℕ → Type 0
AllClosed names slots = slots ≡ []

-- None is open before the first statement.
abbrev pub NoneIsOpenBefore : Type 0
NoneIsOpenBefore = AreOpen 0 no_names []

-- None is open before the first one of `setup`.
abbrev pub NoneIsOpenBeforeSetup : Type 0
NoneIsOpenBeforeSetup = AreOpen 0 setup_names []

-- Statements in a row name open slots alone, and open files in free ones; after them the slots of the files are open that the
-- names have then.
abbrev pub StatementsFindTheirFiles : Type 0
StatementsFindTheirFiles = (begun : ℕ) (statements : List (List Span)) (names : Names) (slots : List ℕ) → AreOpen begun names slots → NamesOpenSlots (AreOpen (begun + length statements)) slots (says begun statements done names)

-- The end closes each open file once, and all of them.
abbrev pub EndClosesAll : Type 0
EndClosesAll = (begun : ℕ) (names : Names) (slots : List ℕ) → AreOpen begun names slots → NamesOpenSlots AllClosed slots (quits names)

-- So does a whole talk, with none open after it.
abbrev pub TalksFindTheirFiles : Type 0
TalksFindTheirFiles = (statements : List (List Span)) → NamesOpenSlots AllClosed [] (talks 0 statements no_names)

abbrev pub open_files : Names → ℕ
open_files names = length (open_slots names)

-- Statements in a row make at most as many entries as they cost together, and one for each file that was open; one for each file
-- that is open after them is left.
abbrev pub StatementsLeaveEntries : Type 0
StatementsLeaveEntries = (begun : ℕ) (statements : List (List Span)) (names : Names) (slots : List ℕ) → AreOpen begun names slots
    → EntriesLeave open_files (sum_by words_cost statements + open_files names) (says begun statements done names)

-- The end makes at most one for each file that is open.
abbrev pub EndMakesAtMost : Type 0
EndMakesAtMost = (begun : ℕ) (names : Names) (slots : List ℕ) → AreOpen begun names slots → EntriesLeave (λ _. 0) (open_files names) (quits names)
