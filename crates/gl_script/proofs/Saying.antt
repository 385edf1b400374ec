-- A statement without a fault says something, and what it says is what its words spell.
use Rattle.std.proofs.Common.{◌≡◌, ℕ, ◌-◌, Bool, true, false, not, ◌||◌, List, [], ◌∷◌, Option, None, Some, refl, sym, ◌∙◌, ap, subst}
use Rattle.std.specs.Prelude.{if◌then◌else◌, codes, is_some}
use Rattle.std.specs.Str.{bytes_eq}
use Rattle.std.proofs.lemmas.Slice.Eq.{bytes_eq-Decides}
use Rattle.gl_base.specs.CommandWord.{command_number_of}
use Rattle.gl_base.specs.Label.{is_label_byte}
use Rattle.gl_base.specs.Path.{path_of}
use Rattle.gl_base.specs.Words.{Span, end_of, text_at}
use Rattle.gl_base.specs.declared.irq.IrqDo.{IrqDo}
use Rattle.gl_base.specs.declared.irq.IrqDo.TheVariants.{Lock, Unlock, Enable, Disable, Never}
use Rattle.gl_base.specs.declared.limits.TheConstants.{LINES_MAX}
use Rattle.gl_script.specs.declared.limits.TheConstants.{JOINED_MAX}
use Rattle.gl_base.specs.declared.pin.PinDo.TheVariants.{Range, Hold, Release}
use Rattle.gl_v1.specs.Words.{makes_file as makes_old_file, old_number_of}
use Rattle.gl_script.specs.declared.refusal.Spot.{Spot}
use Rattle.gl_script.specs.declared.said.Said.{Said}
use Rattle.gl_script.specs.declared.said.Said.TheVariants.{Probe as SaidProbe, Unplug as SaidUnplug, MakeDir as SaidMakeDir, RemoveDir as SaidRemoveDir, Write as SaidWrite, Read as SaidRead, Clock as SaidClock, Fault as SaidFault, Accept as SaidAccept, Aggregate as SaidAggregate, Pin as SaidPin, Irq as SaidIrq, Open as SaidOpen, Ioctl as SaidIoctl, Events as SaidEvents, OldIoctl as SaidOldIoctl, OldEvents as SaidOldEvents, Changes as SaidChanges, Poll as SaidPoll, Close as SaidClose, Detect as SaidDetect, Info as SaidInfo, Get as SaidGet, Set as SaidSet, Start as SaidStart, Step as SaidStep, Stop as SaidStop}
use Rattle.gl_script.specs.declared.table.Form.{Form}
use Rattle.gl_script.specs.declared.table.Form.TheVariants.{FileName, HeldTool, Label, Path, Word, Number, Chip, Command, OldCommand, PinWord, IrqWord}
use Rattle.gl_script.specs.declared.table.Keyword.{Keyword}
use Rattle.gl_script.specs.declared.table.Keyword.TheVariants.{Probe, Unplug, MakeDir, RemoveDir, Write, Read, Clock, Fault, Accept, Aggregate, Pin, Irq, Open, Ioctl, Events, OldIoctl, OldEvents, Changes, Poll, Close, Detect, Info, Get, Set, Start, Step, Stop}
use Rattle.gl_script.specs.declared.version.Version.{Version}
use Rattle.gl_script.specs.declared.version.Version.TheVariants.{Three}
use Rattle.gl_script.specs.Faults.{forms_fault, is_get_line, makes_file, statement_fault, tail_fault, wanted_fault}
use Rattle.gl_script.specs.Forms.{file_name_of, is_path_byte, is_there, label_of, meets, number_within, tree_path_of}
use Rattle.gl_script.specs.Pieces.{behind_three, behind_two, made_by}
use Rattle.gl_script.specs.Said.{ArePins, AreValues, Spells, StatementsAreSaid, VersionsAreSaid, chip_of, hold_of, irq_name, irq_of, irq_said, keyword_said, one, pin_said, range_of, release_of, said_by, said_of, small_of, two, unless_fault, values, wide_of}
use Rattle.gl_script.specs.Table.{is_in, keyword_in, keyword_of, only, only_in, Anything, FileNames, NoMore, Pieces}
use Rattle.gl_script.proofs.TypedWords.{behind_first, made_there, path_there, text_there}
use Rattle.gl_script.proofs.Widening.{fault_widens}

-- a word that meets its form
pub passes : (b : Bool) (x : Option Spot) (y : Spot) → (if b then x else Some y) ≡ None → (b ≡ true) × (x ≡ None)
passes true x y n = (refl, n)
passes false x y n = cc

pub some_fault : (fault : Spot) → Some fault ≡ None → ⊥
some_fault fault e = cc

-- words that are missing no form meet their forms, one after the other
module _ (tail : ℕ → List Span → Option Spot) where
  pub met1 : (f : Form) (fs : List Form) (end : ℕ) (words : List Span) → forms_fault (f ∷ fs) tail end words ≡ None → meets f (text_at 0 words) ≡ true
  met1 f fs end [] n = cc
  met1 f fs end (word ∷ words) n = (passes (meets f word.text) (forms_fault fs tail (end_of word) words) _ n).0

  pub met2 : (f g : Form) (fs : List Form) (end : ℕ) (words : List Span) → forms_fault (f ∷ g ∷ fs) tail end words ≡ None → meets g (text_at 1 words) ≡ true
  met2 f g fs end [] n = cc
  met2 f g fs end (word ∷ words) n = met1 g fs (end_of word) words (passes (meets f word.text) (forms_fault (g ∷ fs) tail (end_of word) words) _ n).1

  met3 : (f g h : Form) (fs : List Form) (end : ℕ) (words : List Span) → forms_fault (f ∷ g ∷ h ∷ fs) tail end words ≡ None → meets h (text_at 2 words) ≡ true
  met3 f g h fs end [] n = cc
  met3 f g h fs end (word ∷ words) n = met2 g h fs (end_of word) words (passes (meets f word.text) (forms_fault (g ∷ h ∷ fs) tail (end_of word) words) _ n).1

  met4 : (f g h i : Form) (fs : List Form) (end : ℕ) (words : List Span) → forms_fault (f ∷ g ∷ h ∷ i ∷ fs) tail end words ≡ None → meets i (text_at 3 words) ≡ true
  met4 f g h i fs end [] n = cc
  met4 f g h i fs end (word ∷ words) n = met3 g h i fs (end_of word) words (passes (meets f word.text) (forms_fault (g ∷ h ∷ i ∷ fs) tail (end_of word) words) _ n).1

  met5 : (f g h i j : Form) (fs : List Form) (end : ℕ) (words : List Span) → forms_fault (f ∷ g ∷ h ∷ i ∷ j ∷ fs) tail end words ≡ None → meets j (text_at 4 words) ≡ true
  met5 f g h i j fs end [] n = cc
  met5 f g h i j fs end (word ∷ words) n = met4 g h i j fs (end_of word) words (passes (meets f word.text) (forms_fault (g ∷ h ∷ i ∷ j ∷ fs) tail (end_of word) words) _ n).1

  -- what stands behind two words of their forms
  pub behind2 : (f g : Form) (end : ℕ) (words : List Span) → forms_fault (f ∷ g ∷ []) tail end words ≡ None → (n : ℕ) × (tail n (behind_two words) ≡ None)
  behind2 f g end [] n = cc
  behind2 f g end (word ∷ []) n = absurd (some_fault _ (passes (meets f word.text) (forms_fault (g ∷ []) tail (end_of word) []) _ n).1)
  behind2 f g end (word ∷ next ∷ words) n =
      let more = (passes (meets f word.text) (forms_fault (g ∷ []) tail (end_of word) (next ∷ words)) _ n).1 in
      (end_of next, (passes (meets g next.text) (tail (end_of next) words) _ more).1)

-- what says something where each of its words does
number_there : (o : Option ℕ) → is_there o ≡ true → is_some o ≡ true
number_there None e = cc
number_there (Some n) e = refl

one_there : {A : Type 0} (says : A → Said) (o : Option A) → is_some o ≡ true → is_some (one says o) ≡ true
one_there says None e = cc
one_there says (Some a) e = refl

two_there : {A B : Type 0} (says : A → B → Said) (a : Option A) (b : Option B) → is_some a ≡ true → is_some b ≡ true → is_some (two says a b) ≡ true
two_there says None b p q = cc
two_there says (Some a) None p q = cc
two_there says (Some a) (Some b) p q = refl

range_there : (c a b d : Option ℕ) → is_there c ≡ true → is_there a ≡ true → is_there b ≡ true → is_there d ≡ true → is_some (pin_said c (range_of a b d)) ≡ true
range_there None a b d p q r s = cc
range_there (Some c) None b d p q r s = cc
range_there (Some c) (Some a) None d p q r s = cc
range_there (Some c) (Some a) (Some b) None p q r s = cc
range_there (Some c) (Some a) (Some b) (Some d) p q r s = refl

hold_there : (c a : Option ℕ) → is_there c ≡ true → is_there a ≡ true → is_some (pin_said c (hold_of a)) ≡ true
hold_there None a p q = cc
hold_there (Some c) None p q = cc
hold_there (Some c) (Some a) p q = refl

release_there : (c a : Option ℕ) → is_there c ≡ true → is_there a ≡ true → is_some (pin_said c (release_of a)) ≡ true
release_there None a p q = cc
release_there (Some c) None p q = cc
release_there (Some c) (Some a) p q = refl

-- the words of `pin`, whose forms go by its second word
first_pin : (r : Bool) (end : ℕ) (words : List Span)
    → wanted_fault (if r then only (PinWord ∷ Chip ∷ Number 0 0xFFFFFFFF ∷ Number 0 0xFFFFFFFF ∷ Number 0 0xFFFFFFFF ∷ []) else only (PinWord ∷ Chip ∷ Number 0 0xFFFFFFFF ∷ [])) end words ≡ None
    → meets PinWord (text_at 0 words) ≡ true
first_pin true end words n = met1 (tail_fault NoMore) PinWord (Chip ∷ Number 0 0xFFFFFFFF ∷ Number 0 0xFFFFFFFF ∷ Number 0 0xFFFFFFFF ∷ []) end words n
first_pin false end words n = met1 (tail_fault NoMore) PinWord (Chip ∷ Number 0 0xFFFFFFFF ∷ []) end words n

pin_there : (r h d : Bool) (end : ℕ) (words : List Span) → (r || (h || (d || false))) ≡ true
    → wanted_fault (if r then only (PinWord ∷ Chip ∷ Number 0 0xFFFFFFFF ∷ Number 0 0xFFFFFFFF ∷ Number 0 0xFFFFFFFF ∷ []) else only (PinWord ∷ Chip ∷ Number 0 0xFFFFFFFF ∷ [])) end words ≡ None
    → is_some (pin_said (chip_of (text_at 1 words))
    (if r then range_of (small_of (text_at 2 words)) (small_of (text_at 3 words)) (small_of (text_at 4 words))
    else if h then hold_of (small_of (text_at 2 words)) else if d then release_of (small_of (text_at 2 words)) else None)) ≡ true
pin_there true h d end words any n =
    let more = Number 0 0xFFFFFFFF ∷ Number 0 0xFFFFFFFF ∷ Number 0 0xFFFFFFFF ∷ [] in
    range_there (chip_of (text_at 1 words)) (small_of (text_at 2 words)) (small_of (text_at 3 words)) (small_of (text_at 4 words))
    (met2 (tail_fault NoMore) PinWord Chip more end words n)
    (met3 (tail_fault NoMore) PinWord Chip (Number 0 0xFFFFFFFF) (Number 0 0xFFFFFFFF ∷ Number 0 0xFFFFFFFF ∷ []) end words n)
    (met4 (tail_fault NoMore) PinWord Chip (Number 0 0xFFFFFFFF) (Number 0 0xFFFFFFFF) (Number 0 0xFFFFFFFF ∷ []) end words n)
    (met5 (tail_fault NoMore) PinWord Chip (Number 0 0xFFFFFFFF) (Number 0 0xFFFFFFFF) (Number 0 0xFFFFFFFF) [] end words n)
pin_there false true d end words any n =
    hold_there (chip_of (text_at 1 words)) (small_of (text_at 2 words))
    (met2 (tail_fault NoMore) PinWord Chip (Number 0 0xFFFFFFFF ∷ []) end words n)
    (met3 (tail_fault NoMore) PinWord Chip (Number 0 0xFFFFFFFF) [] end words n)
pin_there false false true end words any n =
    release_there (chip_of (text_at 1 words)) (small_of (text_at 2 words))
    (met2 (tail_fault NoMore) PinWord Chip (Number 0 0xFFFFFFFF ∷ []) end words n)
    (met3 (tail_fault NoMore) PinWord Chip (Number 0 0xFFFFFFFF) [] end words n)
pin_there false false false end words any n = cc

-- the word of an interrupt
irq_found : (a b c d e : Bool) → (a || (b || (c || (d || (e || false))))) ≡ true
    → is_some (if a then Some Lock else if b then Some Unlock else if c then Some Enable else if d then Some Disable else if e then Some Never else None) ≡ true
irq_found true b c d e any = refl
irq_found false true c d e any = refl
irq_found false false true d e any = refl
irq_found false false false true e any = refl
irq_found false false false false true any = refl
irq_found false false false false false any = cc

irq_there : (o : Option IrqDo) (c n : Option ℕ) → is_some o ≡ true → is_there c ≡ true → is_there n ≡ true → is_some (irq_said o c n) ≡ true
irq_there None c n p q r = cc
irq_there (Some what) None n p q r = cc
irq_there (Some what) (Some c) None p q r = cc
irq_there (Some what) (Some c) (Some n) p q r = refl

-- each statement without a fault, one after the other
values_there : (keyword : Keyword) (first : Span) (words : List Span) → statement_fault Three (Some keyword) first words ≡ None → is_some (values keyword words) ≡ true
values_there Probe first words n =
    two_there (λ label x. SaidProbe label x) (label_of (text_at 0 words)) (number_within 1 LINES_MAX (text_at 1 words))
    (met1 (tail_fault NoMore) (Label Three) (Number 1 LINES_MAX ∷ []) (end_of first) words n)
    (number_there (number_within 1 LINES_MAX (text_at 1 words)) (met2 (tail_fault NoMore) (Label Three) (Number 1 LINES_MAX) [] (end_of first) words n))
values_there Unplug first words n = one_there (λ x. SaidUnplug x) (chip_of (text_at 0 words)) (number_there (chip_of (text_at 0 words)) (met1 (tail_fault NoMore) Chip [] (end_of first) words n))
values_there MakeDir first words n = one_there (λ path. SaidMakeDir path) (tree_path_of (text_at 0 words)) (text_there is_path_byte 127 (text_at 0 words) (met1 (tail_fault NoMore) Path [] (end_of first) words n))
values_there RemoveDir first words n = one_there (λ path. SaidRemoveDir path) (tree_path_of (text_at 0 words)) (text_there is_path_byte 127 (text_at 0 words) (met1 (tail_fault NoMore) Path [] (end_of first) words n))
values_there Write first words n =
    two_there (λ path value. SaidWrite path value) (tree_path_of (text_at 0 words)) (label_of (text_at 1 words))
    (text_there is_path_byte 127 (text_at 0 words) (met1 (tail_fault NoMore) Path (Label Three ∷ []) (end_of first) words n))
    (met2 (tail_fault NoMore) Path (Label Three) [] (end_of first) words n)
values_there Read first words n = one_there (λ path. SaidRead path) (tree_path_of (text_at 0 words)) (text_there is_path_byte 127 (text_at 0 words) (met1 (tail_fault NoMore) Path [] (end_of first) words n))
values_there Clock first words n =
    two_there (λ mono real. SaidClock mono real) (wide_of (text_at 0 words)) (wide_of (text_at 1 words))
    (number_there (wide_of (text_at 0 words)) (met1 (tail_fault NoMore) (Number 0 0xFFFFFFFFFFFFFFFF) (Number 0 0xFFFFFFFFFFFFFFFF ∷ []) (end_of first) words n))
    (number_there (wide_of (text_at 1 words)) (met2 (tail_fault NoMore) (Number 0 0xFFFFFFFFFFFFFFFF) (Number 0 0xFFFFFFFFFFFFFFFF) [] (end_of first) words n))
values_there Fault first words n =
    one_there (λ x. SaidFault x) (number_within 1 1000000 (text_at 0 words)) (number_there (number_within 1 1000000 (text_at 0 words)) (met1 (tail_fault NoMore) (Number 1 1000000) [] (end_of first) words n))
values_there Accept first words n =
    one_there (λ x. SaidAccept x) (wide_of (text_at 0 words)) (number_there (wide_of (text_at 0 words)) (met1 (tail_fault NoMore) (Number 0 0xFFFFFFFFFFFFFFFF) [] (end_of first) words n))
values_there Aggregate first words n =
    one_there (λ label. SaidAggregate label) (label_of (text_at 0 words)) (met1 (tail_fault (FileNames (JOINED_MAX - 1))) (Label Three) (FileName ∷ []) (end_of first) words n)
values_there Pin first words n =
    let word = text_at 0 words in
    pin_there (bytes_eq word (codes "range")) (bytes_eq word (codes "hold")) (bytes_eq word (codes "drop")) (end_of first) words
    (first_pin (bytes_eq word (codes "range")) (end_of first) words n) n
values_there Irq first words n =
    let word = text_at 0 words in
    irq_there (irq_of word) (chip_of (text_at 1 words)) (small_of (text_at 2 words))
    (irq_found (bytes_eq word (codes "lock")) (bytes_eq word (codes "unlock")) (bytes_eq word (codes "enable")) (bytes_eq word (codes "disable")) (bytes_eq word (codes "none"))
    (met1 (tail_fault NoMore) IrqWord (Chip ∷ Number 0 0xFFFFFFFF ∷ []) (end_of first) words n))
    (met2 (tail_fault NoMore) IrqWord Chip (Number 0 0xFFFFFFFF ∷ []) (end_of first) words n)
    (met3 (tail_fault NoMore) IrqWord Chip (Number 0 0xFFFFFFFF) [] (end_of first) words n)
values_there Open first words n =
    two_there (λ name word. SaidOpen name word) (file_name_of (text_at 0 words)) (path_of (text_at 1 words))
    (text_there is_label_byte 15 (text_at 0 words) (met1 (tail_fault NoMore) FileName (Word ∷ []) (end_of first) words n))
    (path_there (text_at 1 words) (met2 (tail_fault NoMore) FileName Word [] (end_of first) words n))
values_there Ioctl first words n =
    let tail = tail_fault (Pieces (makes_file Ioctl words)) in
    let rest = behind2 tail FileName Command (end_of first) words n in
    two_there (λ x made. SaidIoctl x made) (command_number_of (text_at 1 words)) (made_by (makes_file Ioctl words) (behind_two words))
    (number_there (command_number_of (text_at 1 words)) (met2 tail FileName Command [] (end_of first) words n)) (made_there (makes_file Ioctl words) rest.0 (behind_two words) rest.1)
values_there Events first words n =
    one_there (λ x. SaidEvents x) (number_within 0 49152 (text_at 1 words)) (number_there (number_within 0 49152 (text_at 1 words)) (met2 (tail_fault NoMore) FileName (Number 0 49152) [] (end_of first) words n))
values_there OldIoctl first words n =
    let tail = tail_fault (Pieces (makes_file OldIoctl words)) in
    let rest = behind2 tail FileName OldCommand (end_of first) words n in
    two_there (λ x made. SaidOldIoctl x made) (old_number_of (text_at 1 words)) (made_by (makes_file OldIoctl words) (behind_two words))
    (number_there (old_number_of (text_at 1 words)) (met2 tail FileName OldCommand [] (end_of first) words n)) (made_there (makes_file OldIoctl words) rest.0 (behind_two words) rest.1)
values_there OldEvents first words n =
    one_there (λ x. SaidOldEvents x) (number_within 0 16384 (text_at 1 words)) (number_there (number_within 0 16384 (text_at 1 words)) (met2 (tail_fault NoMore) FileName (Number 0 16384) [] (end_of first) words n))
values_there Changes first words n =
    one_there (λ x. SaidChanges x) (number_within 0 9216 (text_at 1 words)) (number_there (number_within 0 9216 (text_at 1 words)) (met2 (tail_fault NoMore) FileName (Number 0 9216) [] (end_of first) words n))
values_there Poll first words n = refl
values_there Close first words n = refl
values_there Detect first words n = refl
values_there Info first words n = refl
values_there Get first words n = refl
values_there Set first words n = refl
values_there Start first words n =
    one_there (λ name. SaidStart name) (file_name_of (text_at 0 words)) (text_there is_label_byte 15 (text_at 0 words) (met1 (tail_fault Anything) FileName (HeldTool ∷ []) (end_of first) words n))
values_there Step first words n =
    two_there (λ name x. SaidStep name x) (file_name_of (text_at 0 words)) (number_within 1 1000 (text_at 1 words))
    (text_there is_label_byte 15 (text_at 0 words) (met1 (tail_fault NoMore) FileName (Number 1 1000 ∷ []) (end_of first) words n))
    (number_there (number_within 1 1000 (text_at 1 words)) (met2 (tail_fault NoMore) FileName (Number 1 1000) [] (end_of first) words n))
values_there Stop first words n =
    one_there (λ name. SaidStop name) (file_name_of (text_at 0 words)) (text_there is_label_byte 15 (text_at 0 words) (met1 (tail_fault NoMore) FileName [] (end_of first) words n))

there_by : (keyword : Keyword) (first : Span) (words : List Span) (o : Option Spot) → statement_fault Three (Some keyword) first words ≡ o → is_some (unless_fault o (values keyword words)) ≡ not (is_some o)
there_by keyword first words None e = values_there keyword first words e
there_by keyword first words (Some fault) e = refl

said_there : (o : Option Keyword) (first : Span) (words : List Span) → is_some (said_by o first words) ≡ not (is_some (statement_fault Three o first words))
said_there None first words = refl
said_there (Some keyword) first words = there_by keyword first words (statement_fault Three (Some keyword) first words) refl

pub statements_are_said : StatementsAreSaid
unfolding said_of
statements_are_said first words = said_there (keyword_of first.text) first words

-- a statement of any version
kept : (version : Version) (b : Bool) (keyword : Keyword) (first : Span) (words : List Span) → statement_fault version (if b then Some keyword else None) first words ≡ None → statement_fault Three (Some keyword) first words ≡ None
kept version true keyword first words n = fault_widens version keyword first words n
kept version false keyword first words n = cc

in_version : (version : Version) (o : Option Keyword) (first : Span) (words : List Span) → statement_fault version (only_in version o) first words ≡ None → statement_fault Three o first words ≡ None
in_version version None first words n = n
in_version version (Some keyword) first words n = kept version (is_in version keyword) keyword first words n

pub versions_are_said : VersionsAreSaid
unfolding said_of
versions_are_said version first words n =
    said_there (keyword_of first.text) first words ∙ ap (λ (o : Option Spot). not (is_some o)) (in_version version (keyword_of first.text) first words n)

-- what a statement of any version says
kept_said : (b : Bool) (keyword : Keyword) (first : Span) (words : List Span) (said : Said) → said_by (if b then Some keyword else None) first words ≡ Some said → said_by (Some keyword) first words ≡ Some said
kept_said true keyword first words said e = e
kept_said false keyword first words said e = cc

said_in_version : (version : Version) (o : Option Keyword) (first : Span) (words : List Span) (said : Said) → said_by (only_in version o) first words ≡ Some said → said_by o first words ≡ Some said
said_in_version version None first words said e = e
said_in_version version (Some keyword) first words said e = kept_said (is_in version keyword) keyword first words said e

pub stated : (version : Version) (first : Span) (words all : List Span) (said : Said) → all ≡ first ∷ words → said_by (keyword_in version first.text) first words ≡ Some said → said_of all ≡ Some said
unfolding said_of
stated version first words all said is e = ap (λ (ws : List Span). said_of ws) is ∙ said_in_version version (keyword_of first.text) first words said e

-- what is said is spelled by its words
pub same_said : (a b : Said) → Some a ≡ Some b → a ≡ b
same_said a b e = cc

same_irq : (a b : IrqDo) → Some a ≡ Some b → a ≡ b
same_irq a b e = cc

same : (word text : List ℕ) → bytes_eq word text ≡ true → text ≡ word
same word text e = sym ((bytes_eq-Decides word text).0 e)

abbrev IsSpelled : Keyword → List Span → Said → Type 0
IsSpelled keyword words said = (keyword_said said ≡ keyword) × AreValues said words

plain : (keyword : Keyword) (words : List Span) (a said : Said) → IsSpelled keyword words a → Some a ≡ Some said → IsSpelled keyword words said
plain keyword words a said is e = subst (IsSpelled keyword words) (same_said a said e) is

valued : {A : Type 0} (keyword : Keyword) (words : List Span) (says : A → Said) (o : Option A) (said : Said) → ((a : A) → o ≡ Some a → IsSpelled keyword words (says a)) → one says o ≡ Some said → IsSpelled keyword words said
valued keyword words says None said each e = cc
valued keyword words says (Some a) said each e = plain keyword words (says a) said (each a refl) e

paired : {A B : Type 0} (keyword : Keyword) (words : List Span) (says : A → B → Said) (a : Option A) (b : Option B) (said : Said)
    → ((x : A) (y : B) → a ≡ Some x → b ≡ Some y → IsSpelled keyword words (says x y)) → two says a b ≡ Some said → IsSpelled keyword words said
paired keyword words says None b said each e = cc
paired keyword words says (Some x) None said each e = cc
paired keyword words says (Some x) (Some y) said each e = plain keyword words (says x y) said (each x y refl refl) e

ranged : (first : Span) (words : List Span) (c a b d : Option ℕ) (said : Said) → codes "range" ≡ text_at 0 words → chip_of (text_at 1 words) ≡ c
    → small_of (text_at 2 words) ≡ a → small_of (text_at 3 words) ≡ b → small_of (text_at 4 words) ≡ d → pin_said c (range_of a b d) ≡ Some said → IsSpelled Pin (first ∷ words) said
ranged first words None a b d said w p q r s e = cc
ranged first words (Some c) None b d said w p q r s e = cc
ranged first words (Some c) (Some a) None d said w p q r s e = cc
ranged first words (Some c) (Some a) (Some b) None said w p q r s e = cc
ranged first words (Some c) (Some a) (Some b) (Some d) said w p q r s e =
    let pins : ArePins (Range a b d) (first ∷ words) = (q, r, s) in
    let each : AreValues (SaidPin c (Range a b d)) (first ∷ words) = (w, p, pins) in
    plain Pin (first ∷ words) (SaidPin c (Range a b d)) said (refl, each) e

held : (first : Span) (words : List Span) (c a : Option ℕ) (said : Said) → codes "hold" ≡ text_at 0 words → chip_of (text_at 1 words) ≡ c → small_of (text_at 2 words) ≡ a
    → pin_said c (hold_of a) ≡ Some said → IsSpelled Pin (first ∷ words) said
held first words None a said w p q e = cc
held first words (Some c) None said w p q e = cc
held first words (Some c) (Some a) said w p q e =
    let each : AreValues (SaidPin c (Hold a)) (first ∷ words) = (w, p, q) in
    plain Pin (first ∷ words) (SaidPin c (Hold a)) said (refl, each) e

released : (first : Span) (words : List Span) (c a : Option ℕ) (said : Said) → codes "drop" ≡ text_at 0 words → chip_of (text_at 1 words) ≡ c → small_of (text_at 2 words) ≡ a
    → pin_said c (release_of a) ≡ Some said → IsSpelled Pin (first ∷ words) said
released first words None a said w p q e = cc
released first words (Some c) None said w p q e = cc
released first words (Some c) (Some a) said w p q e =
    let each : AreValues (SaidPin c (Release a)) (first ∷ words) = (w, p, q) in
    plain Pin (first ∷ words) (SaidPin c (Release a)) said (refl, each) e

no_pin : (c : Option ℕ) (said : Said) → pin_said c None ≡ Some said → ⊥
no_pin None said e = cc
no_pin (Some c) said e = cc

pinned : (first : Span) (words : List Span) (r h d : Bool) (said : Said)
    → (r ≡ true → codes "range" ≡ text_at 0 words) → (h ≡ true → codes "hold" ≡ text_at 0 words) → (d ≡ true → codes "drop" ≡ text_at 0 words)
    → pin_said (chip_of (text_at 1 words))
    (if r then range_of (small_of (text_at 2 words)) (small_of (text_at 3 words)) (small_of (text_at 4 words))
    else if h then hold_of (small_of (text_at 2 words)) else if d then release_of (small_of (text_at 2 words)) else None) ≡ Some said
    → IsSpelled Pin (first ∷ words) said
pinned first words true h d said p q r e = ranged first words (chip_of (text_at 1 words)) (small_of (text_at 2 words)) (small_of (text_at 3 words)) (small_of (text_at 4 words)) said (p refl) refl refl refl refl e
pinned first words false true d said p q r e = held first words (chip_of (text_at 1 words)) (small_of (text_at 2 words)) said (q refl) refl refl e
pinned first words false false true said p q r e = released first words (chip_of (text_at 1 words)) (small_of (text_at 2 words)) said (r refl) refl refl e
pinned first words false false false said p q r e = absurd (no_pin (chip_of (text_at 1 words)) said e)

irq_by : (word : List ℕ) (a b c d e : Bool) (what : IrqDo)
    → (a ≡ true → codes "lock" ≡ word) → (b ≡ true → codes "unlock" ≡ word) → (c ≡ true → codes "enable" ≡ word) → (d ≡ true → codes "disable" ≡ word) → (e ≡ true → codes "none" ≡ word)
    → (if a then Some Lock else if b then Some Unlock else if c then Some Enable else if d then Some Disable else if e then Some Never else None) ≡ Some what → irq_name what ≡ word
irq_by word true b c d e what p q r s t is = subst (λ w. irq_name w ≡ word) (same_irq Lock what is) (p refl)
irq_by word false true c d e what p q r s t is = subst (λ w. irq_name w ≡ word) (same_irq Unlock what is) (q refl)
irq_by word false false true d e what p q r s t is = subst (λ w. irq_name w ≡ word) (same_irq Enable what is) (r refl)
irq_by word false false false true e what p q r s t is = subst (λ w. irq_name w ≡ word) (same_irq Disable what is) (s refl)
irq_by word false false false false true what p q r s t is = subst (λ w. irq_name w ≡ word) (same_irq Never what is) (t refl)
irq_by word false false false false false what p q r s t is = cc

irq_spelled : (word : List ℕ) (what : IrqDo) → irq_of word ≡ Some what → irq_name what ≡ word
irq_spelled word what is =
    irq_by word (bytes_eq word (codes "lock")) (bytes_eq word (codes "unlock")) (bytes_eq word (codes "enable")) (bytes_eq word (codes "disable")) (bytes_eq word (codes "none")) what
    (same word (codes "lock")) (same word (codes "unlock")) (same word (codes "enable")) (same word (codes "disable")) (same word (codes "none")) is

done_so : (first : Span) (words : List Span) (o : Option IrqDo) (c n : Option ℕ) (said : Said) → irq_of (text_at 0 words) ≡ o → chip_of (text_at 1 words) ≡ c → small_of (text_at 2 words) ≡ n
    → irq_said o c n ≡ Some said → IsSpelled Irq (first ∷ words) said
done_so first words None c n said p q r e = cc
done_so first words (Some what) None n said p q r e = cc
done_so first words (Some what) (Some c) None said p q r e = cc
done_so first words (Some what) (Some c) (Some n) said p q r e =
    let each : AreValues (SaidIrq what c n) (first ∷ words) = (irq_spelled (text_at 0 words) what p, q, r) in
    plain Irq (first ∷ words) (SaidIrq what c n) said (refl, each) e

-- the name of the file that a command makes
made_at : (first : Span) (words : List Span) (makes : Option ℕ → Bool) (o : Option ℕ) (n : ℕ) (made : Option (List ℕ)) → o ≡ Some n → made_by (makes o) (behind_two words) ≡ Some made
    → made_by (makes (Some n)) (behind_three (first ∷ words)) ≡ Some made
made_at first words makes o n made is e =
    ap (λ (p : Option ℕ). made_by (makes p) (behind_three (first ∷ words))) (sym is) ∙ ap (λ (ws : List Span). made_by (makes o) ws) (behind_first first words) ∙ e

spelled_at : (keyword : Keyword) (first : Span) (words : List Span) (said : Said) → values keyword words ≡ Some said → IsSpelled keyword (first ∷ words) said
spelled_at Probe first words said e =
    paired Probe (first ∷ words) (λ label n. SaidProbe label n) (label_of (text_at 0 words)) (number_within 1 LINES_MAX (text_at 1 words)) said
    (λ label n h g. let each : AreValues (SaidProbe label n) (first ∷ words) = (h, g) in (refl, each)) e
spelled_at Unplug first words said e = valued Unplug (first ∷ words) (λ n. SaidUnplug n) (chip_of (text_at 0 words)) said (λ n h. (refl, h)) e
spelled_at MakeDir first words said e = valued MakeDir (first ∷ words) (λ path. SaidMakeDir path) (tree_path_of (text_at 0 words)) said (λ path h. (refl, h)) e
spelled_at RemoveDir first words said e = valued RemoveDir (first ∷ words) (λ path. SaidRemoveDir path) (tree_path_of (text_at 0 words)) said (λ path h. (refl, h)) e
spelled_at Write first words said e =
    paired Write (first ∷ words) (λ path value. SaidWrite path value) (tree_path_of (text_at 0 words)) (label_of (text_at 1 words)) said
    (λ path value h g. let each : AreValues (SaidWrite path value) (first ∷ words) = (h, g) in (refl, each)) e
spelled_at Read first words said e = valued Read (first ∷ words) (λ path. SaidRead path) (tree_path_of (text_at 0 words)) said (λ path h. (refl, h)) e
spelled_at Clock first words said e =
    paired Clock (first ∷ words) (λ mono real. SaidClock mono real) (wide_of (text_at 0 words)) (wide_of (text_at 1 words)) said
    (λ mono real h g. let each : AreValues (SaidClock mono real) (first ∷ words) = (h, g) in (refl, each)) e
spelled_at Fault first words said e = valued Fault (first ∷ words) (λ n. SaidFault n) (number_within 1 1000000 (text_at 0 words)) said (λ n h. (refl, h)) e
spelled_at Accept first words said e = valued Accept (first ∷ words) (λ n. SaidAccept n) (wide_of (text_at 0 words)) said (λ n h. (refl, h)) e
spelled_at Aggregate first words said e = valued Aggregate (first ∷ words) (λ label. SaidAggregate label) (label_of (text_at 0 words)) said (λ label h. (refl, h)) e
spelled_at Pin first words said e =
    let word = text_at 0 words in
    pinned first words (bytes_eq word (codes "range")) (bytes_eq word (codes "hold")) (bytes_eq word (codes "drop")) said
    (same word (codes "range")) (same word (codes "hold")) (same word (codes "drop")) e
spelled_at Irq first words said e = done_so first words (irq_of (text_at 0 words)) (chip_of (text_at 1 words)) (small_of (text_at 2 words)) said refl refl refl e
spelled_at Open first words said e =
    paired Open (first ∷ words) (λ name word. SaidOpen name word) (file_name_of (text_at 0 words)) (path_of (text_at 1 words)) said
    (λ name word h g. let each : AreValues (SaidOpen name word) (first ∷ words) = (h, g) in (refl, each)) e
spelled_at Ioctl first words said e =
    paired Ioctl (first ∷ words) (λ n made. SaidIoctl n made) (command_number_of (text_at 1 words)) (made_by (makes_file Ioctl words) (behind_two words)) said
    (λ n made h g. let each : AreValues (SaidIoctl n made) (first ∷ words) = (h, made_at first words is_get_line (command_number_of (text_at 1 words)) n made h g) in (refl, each)) e
spelled_at Events first words said e = valued Events (first ∷ words) (λ n. SaidEvents n) (number_within 0 49152 (text_at 1 words)) said (λ n h. (refl, h)) e
spelled_at OldIoctl first words said e =
    paired OldIoctl (first ∷ words) (λ n made. SaidOldIoctl n made) (old_number_of (text_at 1 words)) (made_by (makes_file OldIoctl words) (behind_two words)) said
    (λ n made h g. let each : AreValues (SaidOldIoctl n made) (first ∷ words) = (h, made_at first words makes_old_file (old_number_of (text_at 1 words)) n made h g) in (refl, each)) e
spelled_at OldEvents first words said e = valued OldEvents (first ∷ words) (λ n. SaidOldEvents n) (number_within 0 16384 (text_at 1 words)) said (λ n h. (refl, h)) e
spelled_at Changes first words said e = valued Changes (first ∷ words) (λ n. SaidChanges n) (number_within 0 9216 (text_at 1 words)) said (λ n h. (refl, h)) e
spelled_at Poll first words said e = plain Poll (first ∷ words) SaidPoll said (refl, tt) e
spelled_at Close first words said e = plain Close (first ∷ words) SaidClose said (refl, tt) e
spelled_at Detect first words said e = plain Detect (first ∷ words) SaidDetect said (refl, tt) e
spelled_at Info first words said e = plain Info (first ∷ words) SaidInfo said (refl, tt) e
spelled_at Get first words said e = plain Get (first ∷ words) SaidGet said (refl, tt) e
spelled_at Set first words said e = plain Set (first ∷ words) SaidSet said (refl, tt) e
spelled_at Start first words said e = valued Start (first ∷ words) (λ name. SaidStart name) (file_name_of (text_at 0 words)) said (λ name h. (refl, h)) e
spelled_at Step first words said e =
    paired Step (first ∷ words) (λ name n. SaidStep name n) (file_name_of (text_at 0 words)) (number_within 1 1000 (text_at 1 words)) said
    (λ name n h g. let each : AreValues (SaidStep name n) (first ∷ words) = (h, g) in (refl, each)) e
spelled_at Stop first words said e = valued Stop (first ∷ words) (λ name. SaidStop name) (file_name_of (text_at 0 words)) said (λ name h. (refl, h)) e

spelled_by_fault : (keyword : Keyword) (o : Option Spot) (first : Span) (words : List Span) (said : Said) → keyword_of first.text ≡ Some keyword → unless_fault o (values keyword words) ≡ Some said → Spells (first ∷ words) said
spelled_by_fault keyword (Some fault) first words said k e = cc
spelled_by_fault keyword None first words said k e =
    let is = spelled_at keyword first words said e in
    record { keyword = k ∙ ap (λ (x : Keyword). Some x) (sym is.0); each = is.1 }

spelled_by : (o : Option Keyword) (first : Span) (words : List Span) (said : Said) → keyword_of first.text ≡ o → said_by o first words ≡ Some said → Spells (first ∷ words) said
spelled_by None first words said k e = cc
spelled_by (Some keyword) first words said k e = spelled_by_fault keyword (statement_fault Three (Some keyword) first words) first words said k e

pub said_is_spelled : (words : List Span) (said : Said) → said_of words ≡ Some said → Spells words said
unfolding said_of
said_is_spelled [] said e = cc
said_is_spelled (first ∷ words) said e = spelled_by (keyword_of first.text) first words said refl e
