-- What a statement says: its numbers and commands, what is done with pins and interrupts, and its names, labels, values and paths.
-- The words of tools, the pieces of a command and the names of files that are there stand for themselves. This project's choice.
use Rattle.std.specs.Prelude.{◌≡◌, ℕ, true, not, ◌==◌, if◌then◌else◌, List, [], ◌∷◌, is_some, Option, None, Some, codes}
use Rattle.std.specs.Str.{bytes_eq}
use Rattle.gl_base.specs.ChipWord.{chip_number_of}
use Rattle.gl_base.specs.CommandWord.{command_number_of}
use Rattle.gl_base.specs.Path.{path_of}
use Rattle.gl_base.specs.Words.{Span, text_at}
use Rattle.gl_base.specs.declared.command.TheConstants.{GET_LINE}
use Rattle.gl_base.specs.declared.irq.IrqDo.{IrqDo}
use Rattle.gl_base.specs.declared.irq.IrqDo.TheVariants.{Lock, Unlock, Enable, Disable, Never}
use Rattle.gl_base.specs.declared.limits.TheConstants.{LINES_MAX}
use Rattle.gl_base.specs.declared.pin.PinDo.{PinDo}
use Rattle.gl_base.specs.declared.pin.PinDo.TheVariants.{Range, Hold, Release}
use Rattle.gl_v1.specs.Words.{makes_file as makes_old_file, old_number_of}
use Rattle.gl_script.specs.declared.refusal.Spot.{Spot}
use Rattle.gl_script.specs.declared.said.Said.{Said}
use Rattle.gl_script.specs.declared.said.Said.TheVariants.{Probe as SaidProbe, Unplug as SaidUnplug, MakeDir as SaidMakeDir, RemoveDir as SaidRemoveDir, Write as SaidWrite, Read as SaidRead, Clock as SaidClock, Fault as SaidFault, Accept as SaidAccept, Aggregate as SaidAggregate, Pin as SaidPin, Irq as SaidIrq, Open as SaidOpen, Ioctl as SaidIoctl, Events as SaidEvents, OldIoctl as SaidOldIoctl, OldEvents as SaidOldEvents, Changes as SaidChanges, Poll as SaidPoll, Close as SaidClose, Detect as SaidDetect, Info as SaidInfo, Get as SaidGet, Set as SaidSet, Start as SaidStart, Step as SaidStep, Stop as SaidStop}
use Rattle.gl_script.specs.declared.table.Keyword.{Keyword}
use Rattle.gl_script.specs.declared.table.Keyword.TheVariants.{Probe, Unplug, MakeDir, RemoveDir, Write, Read, Clock, Fault, Accept, Aggregate, Pin, Irq, Open, Ioctl, Events, OldIoctl, OldEvents, Changes, Poll, Close, Detect, Info, Get, Set, Start, Step, Stop}
use Rattle.gl_script.specs.declared.version.Version.{Version}
use Rattle.gl_script.specs.declared.version.Version.TheVariants.{Three}
use Rattle.gl_script.specs.Faults.{makes_file, statement_fault}
use Rattle.gl_script.specs.Forms.{file_name_of, label_of, number_within, tree_path_of, within}
use Rattle.gl_script.specs.Pieces.{behind_three, behind_two, made_by}
use Rattle.gl_script.specs.Table.{keyword_in, keyword_of}

-- the number of the chip that a word names
abbrev pub chip_of : List ℕ → Option ℕ
chip_of word = within 0 63 (chip_number_of word)

-- a number of 32 bits, and one of 64
abbrev pub small_of : List ℕ → Option ℕ
small_of word = number_within 0 0xFFFFFFFF word

abbrev pub wide_of : List ℕ → Option ℕ
wide_of word = number_within 0 0xFFFFFFFFFFFFFFFF word

-- what is done with an interrupt: each has its word
abbrev pub irq_name : IrqDo → List ℕ
irq_name Lock = codes "lock"
irq_name Unlock = codes "unlock"
irq_name Enable = codes "enable"
irq_name Disable = codes "disable"
irq_name Never = codes "none"

abbrev pub irq_of : List ℕ → Option IrqDo
irq_of word =
    if bytes_eq word (codes "lock") then Some Lock
    else if bytes_eq word (codes "unlock") then Some Unlock
    else if bytes_eq word (codes "enable") then Some Enable
    else if bytes_eq word (codes "disable") then Some Disable
    else if bytes_eq word (codes "none") then Some Never
    else None

-- what is done with pins, by the words behind `pin`: each has its word, and behind the chip its numbers
abbrev pub pin_name : PinDo → List ℕ
pin_name (Range offset pin count) = codes "range"
pin_name (Hold pin) = codes "hold"
pin_name (Release pin) = codes "drop"

abbrev pub range_of : Option ℕ → Option ℕ → Option ℕ → Option PinDo
range_of None pin count = None
range_of (Some offset) None count = None
range_of (Some offset) (Some pin) None = None
range_of (Some offset) (Some pin) (Some count) = Some (Range offset pin count)

abbrev pub hold_of : Option ℕ → Option PinDo
hold_of None = None
hold_of (Some pin) = Some (Hold pin)

abbrev pub release_of : Option ℕ → Option PinDo
release_of None = None
release_of (Some pin) = Some (Release pin)

abbrev pub pin_of : List Span → Option PinDo
pin_of words =
    if bytes_eq (text_at 0 words) (codes "range") then range_of (small_of (text_at 2 words)) (small_of (text_at 3 words)) (small_of (text_at 4 words))
    else if bytes_eq (text_at 0 words) (codes "hold") then hold_of (small_of (text_at 2 words))
    else if bytes_eq (text_at 0 words) (codes "drop") then release_of (small_of (text_at 2 words))
    else None

-- a statement of one value, and those of more
abbrev pub one : {A : Type 0} → (A → Said) → Option A → Option Said
one says None = None
one says (Some a) = Some (says a)

abbrev pub two : {A B : Type 0} → (A → B → Said) → Option A → Option B → Option Said
two says None b = None
two says (Some a) None = None
two says (Some a) (Some b) = Some (says a b)

abbrev pub pin_said : Option ℕ → Option PinDo → Option Said
pin_said None what = None
pin_said (Some chip) None = None
pin_said (Some chip) (Some what) = Some (SaidPin chip what)

abbrev pub irq_said : Option IrqDo → Option ℕ → Option ℕ → Option Said
irq_said None chip offset = None
irq_said (Some what) None offset = None
irq_said (Some what) (Some chip) None = None
irq_said (Some what) (Some chip) (Some offset) = Some (SaidIrq what chip offset)

-- What the words behind that of a statement say, one row a statement; None where a word that is to be read isn't of its form.
abbrev pub values : Keyword → List Span → Option Said
values Probe words = two (λ label n. SaidProbe label n) (label_of (text_at 0 words)) (number_within 1 LINES_MAX (text_at 1 words))
values Unplug words = one (λ n. SaidUnplug n) (chip_of (text_at 0 words))
values MakeDir words = one (λ path. SaidMakeDir path) (tree_path_of (text_at 0 words))
values RemoveDir words = one (λ path. SaidRemoveDir path) (tree_path_of (text_at 0 words))
values Write words = two (λ path value. SaidWrite path value) (tree_path_of (text_at 0 words)) (label_of (text_at 1 words))
values Read words = one (λ path. SaidRead path) (tree_path_of (text_at 0 words))
values Clock words = two (λ mono real. SaidClock mono real) (wide_of (text_at 0 words)) (wide_of (text_at 1 words))
values Fault words = one (λ n. SaidFault n) (number_within 1 1000000 (text_at 0 words))
values Accept words = one (λ n. SaidAccept n) (wide_of (text_at 0 words))
values Aggregate words = one (λ label. SaidAggregate label) (label_of (text_at 0 words))
values Pin words = pin_said (chip_of (text_at 1 words)) (pin_of words)
values Irq words = irq_said (irq_of (text_at 0 words)) (chip_of (text_at 1 words)) (small_of (text_at 2 words))
values Open words = two (λ name word. SaidOpen name word) (file_name_of (text_at 0 words)) (path_of (text_at 1 words))
values Ioctl words = two (λ n made. SaidIoctl n made) (command_number_of (text_at 1 words)) (made_by (makes_file Ioctl words) (behind_two words))
values Events words = one (λ n. SaidEvents n) (number_within 0 49152 (text_at 1 words))
values OldIoctl words = two (λ n made. SaidOldIoctl n made) (old_number_of (text_at 1 words)) (made_by (makes_file OldIoctl words) (behind_two words))
values OldEvents words = one (λ n. SaidOldEvents n) (number_within 0 16384 (text_at 1 words))
values Changes words = one (λ n. SaidChanges n) (number_within 0 9216 (text_at 1 words))
values Poll words = Some SaidPoll
values Close words = Some SaidClose
values Detect words = Some SaidDetect
values Info words = Some SaidInfo
values Get words = Some SaidGet
values Set words = Some SaidSet
values Start words = one (λ name. SaidStart name) (file_name_of (text_at 0 words))
values Step words = two (λ name n. SaidStep name n) (file_name_of (text_at 0 words)) (number_within 1 1000 (text_at 1 words))
values Stop words = one (λ name. SaidStop name) (file_name_of (text_at 0 words))

abbrev pub unless_fault : Option Spot → Option Said → Option Said
unless_fault None said = said
unless_fault (Some fault) said = None

abbrev pub said_by : Option Keyword → Span → List Span → Option Said
said_by None first words = None
said_by (Some keyword) first words = unless_fault (statement_fault Three (Some keyword) first words) (values keyword words)

-- What words say as a statement of `session 3`, which has all statements and all forms of their words; None where they are none.
unfoldable pub said_of : List Span → Option Said
said_of [] = None
said_of (first ∷ words) = said_by (keyword_of first.text) first words

-- Words say something exactly where they have no fault as a statement, and they have none where they have none in a session of any version.
abbrev pub StatementsAreSaid : Type 0
StatementsAreSaid = (first : Span) (words : List Span) → is_some (said_of (first ∷ words)) ≡ not (is_some (statement_fault Three (keyword_of first.text) first words))

abbrev pub VersionsAreSaid : Type 0
VersionsAreSaid = (version : Version) (first : Span) (words : List Span) → statement_fault version (keyword_in version first.text) first words ≡ None → is_some (said_of (first ∷ words)) ≡ true

-- the statement that is said
abbrev pub keyword_said : Said → Keyword
keyword_said (SaidProbe label lines) = Probe
keyword_said (SaidUnplug chip) = Unplug
keyword_said (SaidMakeDir path) = MakeDir
keyword_said (SaidRemoveDir path) = RemoveDir
keyword_said (SaidWrite path value) = Write
keyword_said (SaidRead path) = Read
keyword_said (SaidClock mono real) = Clock
keyword_said (SaidFault nth) = Fault
keyword_said (SaidAccept bits) = Accept
keyword_said (SaidAggregate label) = Aggregate
keyword_said (SaidPin chip what) = Pin
keyword_said (SaidIrq what chip offset) = Irq
keyword_said (SaidOpen name word) = Open
keyword_said (SaidIoctl command made) = Ioctl
keyword_said (SaidEvents len) = Events
keyword_said (SaidOldIoctl command made) = OldIoctl
keyword_said (SaidOldEvents len) = OldEvents
keyword_said (SaidChanges len) = Changes
keyword_said SaidPoll = Poll
keyword_said SaidClose = Close
keyword_said SaidDetect = Detect
keyword_said SaidInfo = Info
keyword_said SaidGet = Get
keyword_said SaidSet = Set
keyword_said (SaidStart name) = Start
keyword_said (SaidStep name turns) = Step
keyword_said (SaidStop name) = Stop

-- the numbers of what is done with pins are those of these words
abbrev pub ArePins : PinDo → List Span → Type 0
ArePins (Range offset pin count) words = (small_of (text_at 3 words) ≡ Some offset) × (small_of (text_at 4 words) ≡ Some pin) × (small_of (text_at 5 words) ≡ Some count)
ArePins (Hold pin) words = small_of (text_at 3 words) ≡ Some pin
ArePins (Release pin) words = small_of (text_at 3 words) ≡ Some pin

-- each value is that of its word
abbrev pub AreValues : Said → List Span → Type 0
AreValues (SaidProbe label lines) words = (label_of (text_at 1 words) ≡ Some label) × (number_within 1 LINES_MAX (text_at 2 words) ≡ Some lines)
AreValues (SaidUnplug chip) words = chip_of (text_at 1 words) ≡ Some chip
AreValues (SaidMakeDir path) words = tree_path_of (text_at 1 words) ≡ Some path
AreValues (SaidRemoveDir path) words = tree_path_of (text_at 1 words) ≡ Some path
AreValues (SaidWrite path value) words = (tree_path_of (text_at 1 words) ≡ Some path) × (label_of (text_at 2 words) ≡ Some value)
AreValues (SaidRead path) words = tree_path_of (text_at 1 words) ≡ Some path
AreValues (SaidClock mono real) words = (wide_of (text_at 1 words) ≡ Some mono) × (wide_of (text_at 2 words) ≡ Some real)
AreValues (SaidFault nth) words = number_within 1 1000000 (text_at 1 words) ≡ Some nth
AreValues (SaidAccept bits) words = wide_of (text_at 1 words) ≡ Some bits
AreValues (SaidAggregate label) words = label_of (text_at 1 words) ≡ Some label
AreValues (SaidPin chip what) words = (pin_name what ≡ text_at 1 words) × (chip_of (text_at 2 words) ≡ Some chip) × ArePins what words
AreValues (SaidIrq what chip offset) words = (irq_name what ≡ text_at 1 words) × (chip_of (text_at 2 words) ≡ Some chip) × (small_of (text_at 3 words) ≡ Some offset)
AreValues (SaidOpen name word) words = (file_name_of (text_at 1 words) ≡ Some name) × (path_of (text_at 2 words) ≡ Some word)
AreValues (SaidIoctl command made) words = (command_number_of (text_at 2 words) ≡ Some command) × (made_by (command == GET_LINE) (behind_three words) ≡ Some made)
AreValues (SaidEvents len) words = number_within 0 49152 (text_at 2 words) ≡ Some len
AreValues (SaidOldIoctl command made) words = (old_number_of (text_at 2 words) ≡ Some command) × (made_by (makes_old_file (Some command)) (behind_three words) ≡ Some made)
AreValues (SaidOldEvents len) words = number_within 0 16384 (text_at 2 words) ≡ Some len
AreValues (SaidChanges len) words = number_within 0 9216 (text_at 2 words) ≡ Some len
AreValues (SaidStart name) words = file_name_of (text_at 1 words) ≡ Some name
AreValues (SaidStep name turns) words = (file_name_of (text_at 1 words) ≡ Some name) × (number_within 1 1000 (text_at 2 words) ≡ Some turns)
AreValues (SaidStop name) words = file_name_of (text_at 1 words) ≡ Some name
AreValues _ words = Unit {0}

-- what is said is what the words spell: their statement, and each value the one that its word spells
pub record Spells (words : List Span) (said : Said) : Type 0 where
  pub keyword : keyword_of (text_at 0 words) ≡ Some (keyword_said said)
  pub each : AreValues said words

abbrev pub SaidIsSpelled : Type 0
SaidIsSpelled = (words : List Span) (said : Said) → said_of words ≡ Some said → Spells words said
