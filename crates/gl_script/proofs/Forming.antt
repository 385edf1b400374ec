-- The words of a statement that stand for themselves are there, and of their forms.
use Rattle.std.proofs.Common.{◌≡◌, ◌<◌, ◌≤◌, ◌+◌, ◌-◌, ℕ, Bool, true, false, ◌&&◌, List, [], ◌∷◌, length, Option, None, Some, refl, subst, arith}
use Rattle.std.specs.Prelude.{if◌then◌else◌, codes, is_some, nat_eq}
use Rattle.std.specs.Option.{option_or}
use Rattle.std.specs.Str.{bytes_eq}
use Rattle.std.proofs.lemmas.Bool.Decides.{nat_tests}
use Rattle.gl_base.specs.BytesText.{piece_size}
use Rattle.gl_base.specs.CommandWord.{command_number_of}
use Rattle.gl_base.specs.Path.{path_of}
use Rattle.gl_base.specs.Words.{Span, end_of, text_at}
use Rattle.gl_base.specs.declared.irq.IrqDo.{IrqDo}
use Rattle.gl_base.specs.declared.limits.TheConstants.{LINES_MAX}
use Rattle.gl_base.specs.declared.pin.PinDo.{PinDo}
use Rattle.gl_v1.specs.Words.{old_number_of}
use Rattle.gl_script.specs.declared.limits.TheConstants.{JOINED_MAX}
use Rattle.gl_script.specs.declared.refusal.Spot.{Spot}
use Rattle.gl_script.specs.declared.refusal.RefusalKind.TheVariants.{Word, Words}
use Rattle.gl_script.specs.declared.said.Said.{Said}
use Rattle.gl_script.specs.declared.said.Said.TheVariants.{Probe as SaidProbe, Unplug as SaidUnplug, MakeDir as SaidMakeDir, RemoveDir as SaidRemoveDir, Write as SaidWrite, Read as SaidRead, Clock as SaidClock, Fault as SaidFault, Accept as SaidAccept, Aggregate as SaidAggregate, Pin as SaidPin, Irq as SaidIrq, Open as SaidOpen, Ioctl as SaidIoctl, Events as SaidEvents, OldIoctl as SaidOldIoctl, OldEvents as SaidOldEvents, Changes as SaidChanges, Poll as SaidPoll, Close as SaidClose, Detect as SaidDetect, Info as SaidInfo, Get as SaidGet, Set as SaidSet, Start as SaidStart, Step as SaidStep, Stop as SaidStop}
use Rattle.gl_script.specs.declared.table.Form.{Form}
use Rattle.gl_script.specs.declared.table.Form.TheVariants.{FileName, HeldTool, Label, Number, Command, OldCommand}
use Rattle.gl_script.specs.declared.table.Keyword.{Keyword}
use Rattle.gl_script.specs.declared.table.Keyword.TheVariants.{Probe, Unplug, MakeDir, RemoveDir, Write, Read, Clock, Fault, Accept, Aggregate, Pin, Irq, Open, Ioctl, Events, OldIoctl, OldEvents, Changes, Poll, Close, Detect, Info, Get, Set, Start, Step, Stop}
use Rattle.gl_script.specs.declared.version.Version.TheVariants.{Three}
use Rattle.gl_script.specs.Faults.{as_fault, bytes_fault, forms_fault, makes_file, more_fault, name_fault, names_fault, piece_fault, pieces_fault, size_of, spot, statement_fault, tail_fault}
use Rattle.gl_script.specs.Formed.{AreFormed, IsWord, StatementsAreFormed, are_bytes, are_ended, are_file_names, are_pieces}
use Rattle.gl_script.specs.Forms.{file_name_of, label_of, meets, number_within, tree_path_of}
use Rattle.gl_script.specs.Pieces.{behind_two, made_by}
use Rattle.gl_script.specs.Said.{chip_of, irq_of, irq_said, one, pin_of, pin_said, said_by, said_of, small_of, two, unless_fault, values, wide_of}
use Rattle.gl_script.specs.Table.{keyword_of, Anything, FileNames, NoMore, Pieces}
use Rattle.gl_script.proofs.Saying.{met1, met2, passes, same_said, some_fault}
use Rattle.gl_script.proofs.Spelling.{neither}

-- what is so whatever the values are is so of what is said
module _ (P : Said → Type 0) where
  of_none : (a said : Said) → P a → Some a ≡ Some said → P said
  of_none a said is e = subst P (same_said a said e) is

  of_one : {A : Type 0} (says : A → Said) (o : Option A) (said : Said) → ((a : A) → P (says a)) → one says o ≡ Some said → P said
  of_one says None said each e = cc
  of_one says (Some a) said each e = of_none (says a) said (each a) e

  of_two : {A B : Type 0} (says : A → B → Said) (a : Option A) (b : Option B) (said : Said) → ((x : A) (y : B) → P (says x y)) → two says a b ≡ Some said → P said
  of_two says None b said each e = cc
  of_two says (Some x) None said each e = cc
  of_two says (Some x) (Some y) said each e = of_none (says x y) said (each x y) e

  of_pin : (chip : Option ℕ) (what : Option PinDo) (said : Said) → ((n : ℕ) (w : PinDo) → P (SaidPin n w)) → pin_said chip what ≡ Some said → P said
  of_pin None what said each e = cc
  of_pin (Some n) None said each e = cc
  of_pin (Some n) (Some w) said each e = of_none (SaidPin n w) said (each n w) e

  of_irq : (what : Option IrqDo) (chip offset : Option ℕ) (said : Said) → ((w : IrqDo) (n m : ℕ) → P (SaidIrq w n m)) → irq_said what chip offset ≡ Some said → P said
  of_irq None chip offset said each e = cc
  of_irq (Some w) None offset said each e = cc
  of_irq (Some w) (Some n) None said each e = cc
  of_irq (Some w) (Some n) (Some m) said each e = of_none (SaidIrq w n m) said (each w n m) e

-- a word of a form is there
named : (first : Span) (words : List Span) → meets FileName (text_at 0 words) ≡ true → IsWord FileName 1 (first ∷ words)
named first [] met = cc
named first (word ∷ words) met = (omega arith, met)

held : (first : Span) (words : List Span) → meets HeldTool (text_at 1 words) ≡ true → IsWord HeldTool 2 (first ∷ words)
held first [] met = cc
held first (word ∷ []) met = cc
held first (word ∷ next ∷ words) met = (omega arith, met)

-- names of files
both : (a b : Bool) → a ≡ true → b ≡ true → (a && b) ≡ true
both true true p q = refl
both true false p q = cc
both false b p q = cc

record AreNames (most : ℕ) (words : List Span) : Type 0 where
  pub few : length words ≤ most
  pub each : are_file_names words ≡ true

few_by : (b : Bool) (most : ℕ) (word : Span) (words : List Span) → nat_eq most 0 ≡ b → (names_fault (most - 1) words ≡ None → AreNames (most - 1) words)
    → (if b then Some (spot word.at Words) else if meets FileName word.text then names_fault (most - 1) words else Some (spot word.at Word)) ≡ None → AreNames most (word ∷ words)
few_by true most word words e later n = cc
few_by false most word words e later n =
    let met = passes (meets FileName word.text) (names_fault (most - 1) words) _ n in
    let rest = later met.1 in
    record { few = grind (arith, nat_tests, e, rest.few); each = both (meets FileName word.text) (are_file_names words) met.0 rest.each }

few_names : (most : ℕ) (words : List Span) → names_fault most words ≡ None → AreNames most words
few_names most [] n = record { few = omega arith; each = refl }
few_names most (word ∷ words) n = few_by (nat_eq most 0) most word words refl (few_names (most - 1) words) n

joined : (end : ℕ) (first : Span) (words : List Span) → forms_fault (Label Three ∷ FileName ∷ []) (tail_fault (FileNames (JOINED_MAX - 1))) end words ≡ None → (label : List ℕ) → AreFormed (SaidAggregate label) (first ∷ words)
joined end first [] n label = cc
joined end first (word ∷ []) n label = absurd (some_fault _ (passes (meets (Label Three) word.text) (forms_fault (FileName ∷ []) (tail_fault (FileNames (JOINED_MAX - 1))) (end_of word) []) _ n).1)
joined end first (word ∷ next ∷ words) n label =
    let more = (passes (meets (Label Three) word.text) (forms_fault (FileName ∷ []) (tail_fault (FileNames (JOINED_MAX - 1))) (end_of word) (next ∷ words)) _ n).1 in
    let last = passes (meets FileName next.text) (names_fault (JOINED_MAX - 1) words) _ more in
    let rest = few_names (JOINED_MAX - 1) words last.1 in
    (omega arith, omega (arith, rest.few), both (meets FileName next.text) (are_file_names words) last.0 rest.each)

-- pieces
piece_there : (said at : ℕ) (size : Option ℕ) → piece_fault said at size ≡ None → is_some size ≡ true
piece_there said at None n = cc
piece_there said at (Some size) n = refl

piece_first : (makes : Bool) (said end : ℕ) (word : Span) (words : List Span) → (pieces_fault makes (said + size_of (piece_size word.text)) end words ≡ None → are_pieces words ≡ true)
    → option_or (piece_fault said word.at (piece_size word.text)) (pieces_fault makes (said + size_of (piece_size word.text)) end words) ≡ None
    → (is_some (piece_size word.text) && are_pieces words) ≡ true
piece_first makes said end word words later n =
    let parts = neither (piece_fault said word.at (piece_size word.text)) (pieces_fault makes (said + size_of (piece_size word.text)) end words) n in
    both (is_some (piece_size word.text)) (are_pieces words) (piece_there said word.at (piece_size word.text) parts.0) (later parts.1)

pieces_by : (makes b : Bool) (said end : ℕ) (word : Span) (words : List Span) → (pieces_fault makes (said + size_of (piece_size word.text)) end words ≡ None → are_pieces words ≡ true)
    → (if makes && b then name_fault end words else option_or (piece_fault said word.at (piece_size word.text)) (pieces_fault makes (said + size_of (piece_size word.text)) end words)) ≡ None
    → (if b then true else (is_some (piece_size word.text) && are_pieces words)) ≡ true
pieces_by makes true said end word words later n = refl
pieces_by true false said end word words later n = piece_first true said end word words later n
pieces_by false false said end word words later n = piece_first false said end word words later n

pieces_there : (makes : Bool) (said end : ℕ) (words : List Span) → pieces_fault makes said end words ≡ None → are_pieces words ≡ true
pieces_there makes said end [] n = refl
pieces_there makes said end (word ∷ words) n =
    pieces_by makes (bytes_eq word.text (codes "as")) said (end_of word) word words (pieces_there makes (said + size_of (piece_size word.text)) (end_of word) words) n

unless_as : (b rest : Bool) → rest ≡ true → (if b then true else rest) ≡ true
unless_as true rest h = refl
unless_as false rest h = h

ended : (makes : Bool) (end : ℕ) (words : List Span) → (if makes then as_fault end words else more_fault words) ≡ None → are_ended words ≡ true
ended true end [] n = cc
ended true end (word ∷ words) n = (passes (bytes_eq word.text (codes "as")) (name_fault (end_of word) words) _ n).0
ended false end [] n = refl
ended false end (word ∷ words) n = cc

bytes_by : (b makes : Bool) (word : Span) (words : List Span)
    → (if b then (if makes then as_fault (end_of word) words else more_fault words)
    else option_or (piece_fault 0 word.at (piece_size word.text)) (pieces_fault makes (0 + size_of (piece_size word.text)) (end_of word) words)) ≡ None
    → (if b then are_ended words else are_pieces (word ∷ words)) ≡ true
bytes_by true makes word words n = ended makes (end_of word) words n
bytes_by false makes word words n =
    unless_as (bytes_eq word.text (codes "as")) (is_some (piece_size word.text) && are_pieces words)
    (piece_first makes 0 (end_of word) word words (pieces_there makes (0 + size_of (piece_size word.text)) (end_of word) words) n)

bytes_there : (makes : Bool) (end : ℕ) (words : List Span) → bytes_fault makes end words ≡ None → are_bytes words ≡ true
bytes_there makes end [] n = cc
bytes_there makes end (word ∷ words) n = bytes_by (bytes_eq word.text (codes "-")) makes word words n

commanded : (first : Span) (words : List Span) (form : Form) (makes : Bool) (end : ℕ) → forms_fault (FileName ∷ form ∷ []) (tail_fault (Pieces makes)) end words ≡ None
    → (3 < length (first ∷ words)) × IsWord FileName 1 (first ∷ words) × (are_bytes (behind_two words) ≡ true)
commanded first [] form makes end n = cc
commanded first (name ∷ []) form makes end n = absurd (some_fault _ (passes (meets FileName name.text) (forms_fault (form ∷ []) (tail_fault (Pieces makes)) (end_of name) []) _ n).1)
commanded first (name ∷ command ∷ []) form makes end n =
    let more = (passes (meets FileName name.text) (forms_fault (form ∷ []) (tail_fault (Pieces makes)) (end_of name) (command ∷ [])) _ n).1 in
    absurd (some_fault _ (passes (meets form command.text) (bytes_fault makes (end_of command) []) _ more).1)
commanded first (name ∷ command ∷ word ∷ words) form makes end n =
    let met = passes (meets FileName name.text) (forms_fault (form ∷ []) (tail_fault (Pieces makes)) (end_of name) (command ∷ word ∷ words)) _ n in
    let more = passes (meets form command.text) (bytes_fault makes (end_of command) (word ∷ words)) _ met.1 in
    (omega arith, (omega arith, met.0), bytes_there makes (end_of command) (word ∷ words) more.1)

-- each statement, one after the other
formed_at : (keyword : Keyword) (first : Span) (words : List Span) (said : Said) → statement_fault Three (Some keyword) first words ≡ None → values keyword words ≡ Some said → AreFormed said (first ∷ words)
formed_at Probe first words said n e = of_two (λ s. AreFormed s (first ∷ words)) (λ label x. SaidProbe label x) (label_of (text_at 0 words)) (number_within 1 LINES_MAX (text_at 1 words)) said (λ label x. omega arith) e
formed_at Unplug first words said n e = of_one (λ s. AreFormed s (first ∷ words)) (λ x. SaidUnplug x) (chip_of (text_at 0 words)) said (λ x. omega arith) e
formed_at MakeDir first words said n e = of_one (λ s. AreFormed s (first ∷ words)) (λ path. SaidMakeDir path) (tree_path_of (text_at 0 words)) said (λ path. omega arith) e
formed_at RemoveDir first words said n e = of_one (λ s. AreFormed s (first ∷ words)) (λ path. SaidRemoveDir path) (tree_path_of (text_at 0 words)) said (λ path. omega arith) e
formed_at Write first words said n e = of_two (λ s. AreFormed s (first ∷ words)) (λ path value. SaidWrite path value) (tree_path_of (text_at 0 words)) (label_of (text_at 1 words)) said (λ path value. omega arith) e
formed_at Read first words said n e = of_one (λ s. AreFormed s (first ∷ words)) (λ path. SaidRead path) (tree_path_of (text_at 0 words)) said (λ path. omega arith) e
formed_at Clock first words said n e = of_two (λ s. AreFormed s (first ∷ words)) (λ mono real. SaidClock mono real) (wide_of (text_at 0 words)) (wide_of (text_at 1 words)) said (λ mono real. omega arith) e
formed_at Fault first words said n e = of_one (λ s. AreFormed s (first ∷ words)) (λ x. SaidFault x) (number_within 1 1000000 (text_at 0 words)) said (λ x. omega arith) e
formed_at Accept first words said n e = of_one (λ s. AreFormed s (first ∷ words)) (λ x. SaidAccept x) (wide_of (text_at 0 words)) said (λ x. omega arith) e
formed_at Aggregate first words said n e = of_one (λ s. AreFormed s (first ∷ words)) (λ label. SaidAggregate label) (label_of (text_at 0 words)) said (joined (end_of first) first words n) e
formed_at Pin first words said n e = of_pin (λ s. AreFormed s (first ∷ words)) (chip_of (text_at 1 words)) (pin_of words) said (λ x what. omega arith) e
formed_at Irq first words said n e = of_irq (λ s. AreFormed s (first ∷ words)) (irq_of (text_at 0 words)) (chip_of (text_at 1 words)) (small_of (text_at 2 words)) said (λ what x y. omega arith) e
formed_at Open first words said n e = of_two (λ s. AreFormed s (first ∷ words)) (λ name word. SaidOpen name word) (file_name_of (text_at 0 words)) (path_of (text_at 1 words)) said (λ name word. omega arith) e
formed_at Ioctl first words said n e = of_two (λ s. AreFormed s (first ∷ words)) (λ x made. SaidIoctl x made) (command_number_of (text_at 1 words)) (made_by (makes_file Ioctl words) (behind_two words)) said (λ x made. commanded first words Command (makes_file Ioctl words) (end_of first) n) e
formed_at Events first words said n e = of_one (λ s. AreFormed s (first ∷ words)) (λ x. SaidEvents x) (number_within 0 49152 (text_at 1 words)) said (λ x. named first words (met1 (tail_fault NoMore) FileName (Number 0 49152 ∷ []) (end_of first) words n)) e
formed_at OldIoctl first words said n e = of_two (λ s. AreFormed s (first ∷ words)) (λ x made. SaidOldIoctl x made) (old_number_of (text_at 1 words)) (made_by (makes_file OldIoctl words) (behind_two words)) said (λ x made. commanded first words OldCommand (makes_file OldIoctl words) (end_of first) n) e
formed_at OldEvents first words said n e = of_one (λ s. AreFormed s (first ∷ words)) (λ x. SaidOldEvents x) (number_within 0 16384 (text_at 1 words)) said (λ x. named first words (met1 (tail_fault NoMore) FileName (Number 0 16384 ∷ []) (end_of first) words n)) e
formed_at Changes first words said n e = of_one (λ s. AreFormed s (first ∷ words)) (λ x. SaidChanges x) (number_within 0 9216 (text_at 1 words)) said (λ x. named first words (met1 (tail_fault NoMore) FileName (Number 0 9216 ∷ []) (end_of first) words n)) e
formed_at Poll first words said n e = of_none (λ s. AreFormed s (first ∷ words)) SaidPoll said (named first words (met1 (tail_fault NoMore) FileName [] (end_of first) words n)) e
formed_at Close first words said n e = of_none (λ s. AreFormed s (first ∷ words)) SaidClose said (named first words (met1 (tail_fault NoMore) FileName [] (end_of first) words n)) e
formed_at Detect first words said n e = of_none (λ s. AreFormed s (first ∷ words)) SaidDetect said (omega arith) e
formed_at Info first words said n e = of_none (λ s. AreFormed s (first ∷ words)) SaidInfo said (omega arith) e
formed_at Get first words said n e = of_none (λ s. AreFormed s (first ∷ words)) SaidGet said (omega arith) e
formed_at Set first words said n e = of_none (λ s. AreFormed s (first ∷ words)) SaidSet said (omega arith) e
formed_at Start first words said n e = of_one (λ s. AreFormed s (first ∷ words)) (λ name. SaidStart name) (file_name_of (text_at 0 words)) said (λ name. held first words (met2 (tail_fault Anything) FileName HeldTool [] (end_of first) words n)) e
formed_at Step first words said n e = of_two (λ s. AreFormed s (first ∷ words)) (λ name x. SaidStep name x) (file_name_of (text_at 0 words)) (number_within 1 1000 (text_at 1 words)) said (λ name x. omega arith) e
formed_at Stop first words said n e = of_one (λ s. AreFormed s (first ∷ words)) (λ name. SaidStop name) (file_name_of (text_at 0 words)) said (λ name. omega arith) e

formed_by_fault : (keyword : Keyword) (o : Option Spot) (first : Span) (words : List Span) (said : Said) → statement_fault Three (Some keyword) first words ≡ o → unless_fault o (values keyword words) ≡ Some said
    → AreFormed said (first ∷ words)
formed_by_fault keyword (Some fault) first words said n e = cc
formed_by_fault keyword None first words said n e = formed_at keyword first words said n e

formed_by : (o : Option Keyword) (first : Span) (words : List Span) (said : Said) → said_by o first words ≡ Some said → AreFormed said (first ∷ words)
formed_by None first words said e = cc
formed_by (Some keyword) first words said e = formed_by_fault keyword (statement_fault Three (Some keyword) first words) first words said refl e

pub statements_are_formed : StatementsAreFormed
unfolding said_of
statements_are_formed [] said e = cc
statements_are_formed (first ∷ words) said e = formed_by (keyword_of first.text) first words said e
