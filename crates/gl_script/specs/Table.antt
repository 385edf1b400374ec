-- The statements: the word that each begins with, and the forms of its further words. This project's choice.
use Rattle.std.specs.Prelude.{◌≡◌, ℕ, ◌-◌, Bool, true, false, if◌then◌else◌, List, [], ◌∷◌, Option, None, Some, find, codes}
use Rattle.std.specs.Str.{bytes_eq}
use Rattle.gl_script.specs.declared.table.Form.{Form}
use Rattle.gl_script.specs.declared.table.Form.TheVariants.{FileName, Label, Path, Number, Chip, Word, Command, OldCommand, PinWord, IrqWord, HeldTool}
use Rattle.gl_script.specs.declared.table.Keyword.{Keyword}
use Rattle.gl_script.specs.declared.table.Keyword.TheVariants.{Probe, Unplug, MakeDir, RemoveDir, Write, Read, Clock, Fault, Accept, Aggregate, Pin, Irq, Open, Ioctl, Events, OldIoctl, OldEvents, Changes, Poll, Close, Detect, Info, Get, Set, Start, Step, Stop}
use Rattle.gl_script.specs.declared.table.TheConstants.{KEYWORDS}
use Rattle.gl_script.specs.declared.version.Version.{Version}
use Rattle.gl_script.specs.declared.version.Version.TheVariants.{One, Two, Three}
use Rattle.gl_base.specs.declared.limits.TheConstants.{LINES_MAX}
use Rattle.gl_script.specs.declared.limits.TheConstants.{JOINED_MAX}

-- the word of a statement
abbrev pub keyword_name : Keyword → List ℕ
keyword_name Probe = codes "probe"
keyword_name Unplug = codes "unplug"
keyword_name MakeDir = codes "mkdir"
keyword_name RemoveDir = codes "rmdir"
keyword_name Write = codes "write"
keyword_name Read = codes "read"
keyword_name Clock = codes "clock"
keyword_name Fault = codes "fault"
keyword_name Accept = codes "accept"
keyword_name Aggregate = codes "aggregate"
keyword_name Pin = codes "pin"
keyword_name Irq = codes "irq"
keyword_name Open = codes "open"
keyword_name Ioctl = codes "ioctl"
keyword_name Events = codes "events"
keyword_name OldIoctl = codes "ioctl1"
keyword_name OldEvents = codes "events1"
keyword_name Changes = codes "changes"
keyword_name Poll = codes "poll"
keyword_name Close = codes "close"
keyword_name Detect = codes "gpiodetect"
keyword_name Info = codes "gpioinfo"
keyword_name Get = codes "gpioget"
keyword_name Set = codes "gpioset"
keyword_name Start = codes "start"
keyword_name Step = codes "step"
keyword_name Stop = codes "stop"

abbrev pub is_keyword : List ℕ → Keyword → Bool
is_keyword word keyword = bytes_eq (keyword_name keyword) word

-- the statement that a word begins in a session of any version, if it begins one
abbrev pub keyword_of : List ℕ → Option Keyword
keyword_of word = find (is_keyword word) KEYWORDS

-- `accept` is a statement from `session 2` on
abbrev pub has_accept : Version → Bool
has_accept One = false
has_accept Two = true
has_accept Three = true

-- a session of this version has the statement
abbrev pub is_in : Version → Keyword → Bool
is_in version Accept = has_accept version
is_in version _ = true

abbrev pub only_in : Version → Option Keyword → Option Keyword
only_in version None = None
only_in version (Some keyword) = if is_in version keyword then Some keyword else None

-- the statement that a word begins in a session of this version, if it begins one
abbrev pub keyword_in : Version → List ℕ → Option Keyword
keyword_in version word = only_in version (keyword_of word)

-- each statement is the one that its word begins: its row isn't missing, and no row before it has its word
abbrev pub StatementsHaveTheirWords : Type 0
StatementsHaveTheirWords = (keyword : Keyword) → keyword_of (keyword_name keyword) ≡ Some keyword

-- what may stand behind the words that have forms: nothing, any words, at most so many further names of files, or pieces of bytes and then `as NAME`
-- exactly where the command makes a file
pub data Tail : Type 0 where
  NoMore : Tail
  Anything : Tail
  FileNames : (most : ℕ) → Tail
  Pieces : (makes : Bool) → Tail

-- the forms of the further words, and what may stand behind them
pub record Wanted : Type 0 where
  pub forms : List Form
  pub tail : Tail

abbrev pub only : List Form → Wanted
only forms = record { forms = forms; tail = NoMore }

abbrev pub followed : List Form → Tail → Wanted
followed forms tail = record { forms = forms; tail = tail }

-- one row a statement; the second word, and whether the third is a command that makes a file, decide where a statement has several forms,
-- and the version which bytes a label or a value may have
abbrev pub wanted : Version → Keyword → List ℕ → Bool → Wanted
wanted version Probe second makes = only (Label version ∷ Number 1 LINES_MAX ∷ [])
wanted version Unplug second makes = only (Chip ∷ [])
wanted version MakeDir second makes = only (Path ∷ [])
wanted version RemoveDir second makes = only (Path ∷ [])
wanted version Write second makes = only (Path ∷ Label version ∷ [])
wanted version Read second makes = only (Path ∷ [])
wanted version Clock second makes = only (Number 0 0xFFFFFFFFFFFFFFFF ∷ Number 0 0xFFFFFFFFFFFFFFFF ∷ [])
wanted version Fault second makes = only (Number 1 1000000 ∷ [])
wanted version Accept second makes = only (Number 0 0xFFFFFFFFFFFFFFFF ∷ [])
wanted version Aggregate second makes = followed (Label version ∷ FileName ∷ []) (FileNames (JOINED_MAX - 1))
wanted version Pin second makes =
    if bytes_eq second (codes "range") then only (PinWord ∷ Chip ∷ Number 0 0xFFFFFFFF ∷ Number 0 0xFFFFFFFF ∷ Number 0 0xFFFFFFFF ∷ [])
    else only (PinWord ∷ Chip ∷ Number 0 0xFFFFFFFF ∷ [])
wanted version Irq second makes = only (IrqWord ∷ Chip ∷ Number 0 0xFFFFFFFF ∷ [])
wanted version Open second makes = only (FileName ∷ Word ∷ [])
wanted version Ioctl second makes = followed (FileName ∷ Command ∷ []) (Pieces makes)
wanted version Events second makes = only (FileName ∷ Number 0 49152 ∷ [])
wanted version OldIoctl second makes = followed (FileName ∷ OldCommand ∷ []) (Pieces makes)
wanted version OldEvents second makes = only (FileName ∷ Number 0 16384 ∷ [])
wanted version Changes second makes = only (FileName ∷ Number 0 9216 ∷ [])
wanted version Poll second makes = only (FileName ∷ [])
wanted version Close second makes = only (FileName ∷ [])
wanted version Detect second makes = followed [] Anything
wanted version Info second makes = followed [] Anything
wanted version Get second makes = followed [] Anything
wanted version Set second makes = followed [] Anything
wanted version Start second makes = followed (FileName ∷ HeldTool ∷ []) Anything
wanted version Step second makes = only (FileName ∷ Number 1 1000 ∷ [])
wanted version Stop second makes = only (FileName ∷ [])
