-- The cost of a session: how many entries of a history it may make at most, summed over its statements, five times that where it has an
-- `aggregate`. The closing of a file is counted where the file is opened. This project's choice.
use Rattle.std.specs.Prelude.{ℕ, ◌+◌, ◌-◌, ◌*◌, Bool, true, false, ◌||◌, nat_eq, if◌then◌else◌, List, [], ◌∷◌, length, sum_by, codes, Option, Some, None}
use Rattle.std.specs.List.{list_any, starts_with}
use Rattle.std.specs.Str.{bytes_eq}
use Rattle.gl_base.specs.declared.limits.TheConstants.{LINES_MAX, PLACES}
use Rattle.gl_base.specs.Words.{Span, text_at}
use Rattle.gl_script.specs.Columns.{columns}
use Rattle.gl_script.specs.Faults.{makes_file}
use Rattle.gl_script.specs.Forms.{number_within}
use Rattle.gl_script.specs.Section.{SaidSection}
use Rattle.gl_script.specs.Table.{keyword_of}
use Rattle.gl_script.specs.declared.table.Keyword.{Keyword}
use Rattle.gl_script.specs.declared.table.Keyword.TheVariants.{Probe, Unplug, MakeDir, RemoveDir, Write, Read, Clock, Fault, Accept, Aggregate, Pin, Irq, Open, Ioctl, Events, OldIoctl, OldEvents, Changes, Poll, Close, Detect, Info, Get, Set, Start, Step, Stop}

-- a number; 0 where there is none
abbrev pub or_zero : Option ℕ → ℕ
or_zero None = 0
or_zero (Some n) = n

-- a word may name the chip of gpioinfo
abbrev pub is_chip_option : Span → Bool
is_chip_option word = bytes_eq word.text (codes "-c") || starts_with nat_eq word.text (codes "--chip")

abbrev pub are_none : List Span → Bool
are_none [] = true
are_none (word ∷ words) = false

-- gpiodetect has no chip word: it has no words, or `--` alone
abbrev pub is_bare : List Span → Bool
is_bare [] = true
is_bare (word ∷ words) = if bytes_eq word.text (codes "--") then are_none words else false

-- the words of `start` behind the tool's
abbrev pub start_cost : List ℕ → ℕ → ℕ
start_cost tool count = if bytes_eq tool (codes "gpionotify") then 2 * count + 2 else count + 5

-- the cost of a statement, by the words behind its first
abbrev pub cost : Keyword → List Span → ℕ
cost Probe words = 1
cost Unplug words = 2
cost MakeDir words = 1
cost RemoveDir words = 1
cost Write words = 2
cost Read words = 1
cost Clock words = 1
cost Fault words = 0
cost Accept words = 0
cost Aggregate words = 1
cost Pin words = 1
cost Irq words = 1
cost Open words = 2
cost Ioctl words = if makes_file Ioctl words then 3 else 2
cost Events words = 1
cost OldIoctl words = if makes_file OldIoctl words then 3 else 2
cost OldEvents words = 1
cost Changes words = 1
cost Poll words = 1
cost Close words = 0
cost Detect words = if is_bare words then 3 * PLACES else 3 * length words
cost Info words = if list_any is_chip_option words then LINES_MAX + 3 else PLACES * (LINES_MAX + 3)
cost Get words = length words + 7
cost Set words = length words + 5
cost Start words = start_cost (text_at 1 words) (length words - 2)
cost Step words = or_zero (number_within 1 1000 (text_at 1 words)) + 1
cost Stop words = 0

abbrev pub cost_by : Option Keyword → List Span → ℕ
cost_by None words = 0
cost_by (Some keyword) words = cost keyword words

-- the cost of the words of a line
abbrev pub words_cost : List Span → ℕ
words_cost [] = 0
words_cost (first ∷ words) = cost_by (keyword_of first.text) words

-- the cost of a statement
abbrev pub statement_cost : Span → ℕ
statement_cost line = words_cost (columns line.text)

-- the cost of a section
abbrev pub section_cost : SaidSection → ℕ
section_cost section = sum_by statement_cost section.statements

-- the cost of all statements
abbrev pub statements_cost : List SaidSection → ℕ
statements_cost sections = sum_by section_cost sections

-- a statement makes a chip over requests, by its keyword, by its words, and by its line
abbrev pub is_aggregate : Option Keyword → Bool
is_aggregate (Some Aggregate) = true
is_aggregate _ = false

abbrev pub words_aggregate : List Span → Bool
words_aggregate words = is_aggregate (keyword_of (text_at 0 words))

abbrev pub statement_aggregates : Span → Bool
statement_aggregates line = words_aggregate (columns line.text)

-- a section, and a session, has such a statement
abbrev pub section_aggregates : SaidSection → Bool
section_aggregates section = list_any statement_aggregates section.statements

abbrev pub has_aggregate : List SaidSection → Bool
has_aggregate sections = list_any section_aggregates sections

-- Each call of the driver stands between two entries that are counted, and where lines of a chip are those of requests it adds at most eight
-- of its own.
abbrev pub with_own : Bool → ℕ → ℕ
with_own true cost = 5 * cost
with_own false cost = cost

-- the cost of a session
abbrev pub session_cost : List SaidSection → ℕ
session_cost sections = with_own (has_aggregate sections) (statements_cost sections)
