-- What a statement does by its words it does by what it says, with no default in a word's place.
use Rattle.std.proofs.Common.{◌≡◌, ℕ, ◌*◌, ◌/◌, Bool, true, false, cond, ◌&&◌, List, map, Option, None, Some, refl, sym, ◌∙◌, ap, subst, arith}
use Rattle.std.specs.List.{list_any}
use Rattle.std.specs.Prelude.{◌==◌, if◌then◌else◌, is_some, length, not, nat_le, nat_lt, codes}
use Rattle.std.specs.Str.{bytes_eq}
use Rattle.std.proofs.lemmas.Bool.Decides.{nat_tests}
use Rattle.gl_base.specs.ChipWord.{chip_number_of}
use Rattle.gl_base.specs.Padded.{padded}
use Rattle.gl_base.specs.Words.{Span, text_at}
use Rattle.gl_base.specs.Operation.{bytes_of, refusal}
use Rattle.gl_base.specs.declared.command.TheConstants.{GET_CHIPINFO, GET_LINEINFO, GET_LINEINFO_WATCH, GET_LINE, LINE_GET_VALUES}
use Rattle.gl_base.specs.declared.errno.Errno.{Errno}
use Rattle.gl_base.specs.declared.errno.Errno.TheVariants.{BadF, Exist, Inval, Perm}
use Rattle.gl_base.specs.declared.irq.IrqDo.{IrqDo}
use Rattle.gl_base.specs.declared.irq.IrqDo.TheVariants.{Lock, Unlock, Enable, Disable, Never}
use Rattle.gl_base.specs.declared.limits.TheConstants.{LINES_MAX, PLACES}
use Rattle.gl_base.specs.declared.operation.Do.{Do}
use Rattle.gl_base.specs.declared.operation.Do.TheVariants.{Probe as DoProbe, Unplug as DoUnplug, MakeDir as DoMakeDir, RemoveDir as DoRemoveDir, Write as DoWrite, Read as DoRead, Live as DoLive, Tick as DoTick, Pin as DoPin, Irq as DoIrq, Pull as DoPull, Level as DoLevel, OpenChip as DoOpenChip, Ioctl as DoIoctl, ReadFile as DoReadFile, Poll as DoPoll, Close as DoClose, Plan as DoPlan, Accept as DoAccept, Aggregate as DoAggregate}
use Rattle.gl_base.specs.declared.operation.Got.{Got}
use Rattle.gl_base.specs.declared.pin.PinDo.{PinDo}
use Rattle.gl_base.specs.declared.pin.PinDo.TheVariants.{Range, Hold, Release}
use Rattle.gl_client.specs.Program.{ask, done}
use Rattle.gl_script.specs.Forms.{file_name_of, number_within, tree_path_of, within}
use Rattle.gl_script.specs.Pieces.{made_by, named}
use Rattle.gl_script.specs.Said.{ArePins, AreValues, Spells, chip_of, irq_name, keyword_said, pin_name, small_of}
use Rattle.gl_script.specs.Table.{keyword_of}
use Rattle.gl_script.specs.declared.said.Said.{Said}
use Rattle.gl_script.specs.declared.said.Said.TheVariants.{Probe, Unplug, MakeDir, RemoveDir, Write, Read, Clock, Fault, Accept, Aggregate, Pin, Irq, Open, Ioctl, Events, OldIoctl, OldEvents, Changes, Poll, Close, Start, Step, Stop}
use Rattle.gl_script.specs.Cost.{or_zero}
use Rattle.gl_v1.specs.Commands.{command_for, sent_as}
use Rattle.gl_v1.specs.To.{sent_if}
use Rattle.gl_v1.specs.Words.{makes as makes_old, makes_file, old_number_of}
use Rattle.gl_v1.specs.declared.commands.CommandV1.{CommandV1}
use Rattle.gl_v1.specs.declared.commands.CommandV1.TheVariants.{ChipInfo, LineInfo, LineHandle, LineEvent, GetValues, SetValues, SetConfig}
use Rattle.gl_v1.specs.declared.commands.KindV1.{KindV1}
use Rattle.gl_v1.specs.declared.commands.KindV1.TheVariants.{Chip as OldChip, Handle, Event}
use Rattle.gl_talk.specs.declared.actions.SaidAction.{SaidAction}
use Rattle.gl_talk.specs.declared.actions.SaidAction.TheVariants.{Refuse as SaidRefuse, Ask as SaidAsk}
use Rattle.gl_talk.specs.declared.actions.SaidFormat.{SaidFormat}
use Rattle.gl_talk.specs.declared.actions.SaidFormat.TheVariants.{Silent as SaidSilent, Value as SaidValue, Level as SaidLevel, Bytes as SaidBytes, Edges as SaidEdges, Infos as SaidInfos, Ready as SaidReady, Opened as SaidOpened, Closed as SaidClosed, Made as SaidMade, OldBytes as SaidOldBytes, OldEdges as SaidOldEdges, OldMade as SaidOldMade}
use Rattle.gl_talk.specs.declared.files.TalkFile.{TalkFile}
use Rattle.gl_talk.specs.declared.files.TalkFileKind.{TalkFileKind}
use Rattle.gl_script.specs.declared.limits.TheConstants.{JOINED_MAX}
use Rattle.gl_talk.specs.declared.files.TalkFileKind.TheVariants.{Chip, Request, Old}
use Rattle.gl_talk.specs.declared.paths.LineFile.{LineFile}
use Rattle.gl_talk.specs.Actions.{action_here, action_of, aggregates, closes, command_reply, files_named, ioctls, ioctls_bytes, is_out_of_place, lives, old_ioctls, old_ioctls_bytes, only_in_setup, opens, pin_said, polls, pulls, reads, reads_file, slots_of, small_word, takes_name, unplugs, writes, writes_line, writes_tree}
use Rattle.gl_talk.specs.Doing.{Does, shows}
use Rattle.gl_talk.specs.Formats.{Action, Refuse, Ask, ResultFormat, Silent, Value, Level, Bytes, Edges, Infos, Ready, Opened, Closed, Made, OldBytes, OldEdges, OldMade}
use Rattle.gl_talk.specs.Old.{kind_v1, made_kind, old_command_word, old_reply, old_structure_text, sent_new, sent_old, takes_old_name}
use Rattle.gl_talk.specs.Open.{File, Names, file_in, file_of, is_chip, is_chip_file, is_old_event, is_request, with_file}
use Rattle.gl_talk.specs.Paths.{line_file, live_device}
use Rattle.gl_talk.specs.Replies.{fd_text, structure_text}
use Rattle.gl_talk.specs.SaidActions.{StatementsAskWhatTheySay, action_said, action_said_here, aggregates_said, bytes_reply_said, closes_said, ioctls_bytes_said, ioctls_said, lives_said, old_bytes_reply_said, old_ioctls_bytes_said, old_ioctls_said, old_reply_said, opens_said, polls_said, pulls_said, reads_file_said, reads_said, reply_said, takes, writes_line_said, writes_said, writes_tree_said}
use Rattle.gl_talk.specs.SaidTalk.{acts_said, file_said, replied_said_by, told_said}
use Rattle.gl_talk.specs.Talk.{acts, does_by, replied_by, told}
use Rattle.gl_talk.specs.ToolWords.{kind_of, name_said, turns_said}
use Rattle.gl_talk.specs.Words.{behind_two, behind_three, bytes_said, command_word, irq_word, label_word, live_word, made_name, name_behind_as, name_word, number_word, or_else, path_word, place_of, place_word, pull_word, turns_word}
use Rattle.gl_talk.proofs.StatementCosts.{sent_cmd}
use Rattle.gl_talk.proofs.WordReadings.{chip_word, file_name_is, file_name_word, label_says, live_device_is_read, tree_path_is, tree_path_word}

-- a number that is read is the word's
number_is : (low high : ℕ) (word : List ℕ) (n : ℕ) → number_within low high word ≡ Some n → number_word low high word ≡ n
number_is low high word n is = ap (λ (o : Option ℕ). or_else low o) is

same_number : (a b : ℕ) → Some a ≡ Some b → a ≡ b
same_number a b e = cc

place_some : (n chip : ℕ) (a b : Bool) → nat_le n 63 ≡ b → (if a && b then Some n else None) ≡ Some chip → (if nat_lt n PLACES then n else 0) ≡ chip
place_some n chip true true p e =
    let below : nat_lt n PLACES ≡ true = grind (arith, nat_tests, p) in
    ap (λ (b : Bool). if b then n else 0) below ∙ same_number n chip e
place_some n chip true false p e = cc
place_some n chip false b p e = cc

place_by : (o : Option ℕ) (chip : ℕ) → within 0 63 o ≡ Some chip → place_of o ≡ chip
place_by None chip e = cc
place_by (Some n) chip e = place_some n chip (nat_le 0 n) (nat_le n 63) refl e

place_is : (word : List ℕ) (chip : ℕ) → chip_of word ≡ Some chip → place_word word ≡ chip
place_is word chip is = place_by (chip_number_of word) chip is

-- so is what is done with an interrupt, and with pins
irq_itself : (what : IrqDo) → irq_word (irq_name what) ≡ what
irq_itself Lock = refl
irq_itself Unlock = refl
irq_itself Enable = refl
irq_itself Disable = refl
irq_itself Never = refl

irq_is : (word : List ℕ) (what : IrqDo) → irq_name what ≡ word → irq_word word ≡ what
irq_is word what is = subst (λ (w : List ℕ). irq_word w ≡ what) is (irq_itself what)

abbrev pin_by : List ℕ → List Span → PinDo
pin_by word words =
    if bytes_eq word (codes "range") then Range (small_word (text_at 3 words)) (small_word (text_at 4 words)) (small_word (text_at 5 words))
    else if bytes_eq word (codes "hold") then Hold (small_word (text_at 3 words))
    else Release (small_word (text_at 3 words))

small_is : (word : List ℕ) (n : ℕ) → small_of word ≡ Some n → small_word word ≡ n
small_is word n is = number_is 0 0xFFFFFFFF word n is

pin_itself : (what : PinDo) (words : List Span) → ArePins what words → pin_by (pin_name what) words ≡ what
pin_itself (Range offset pin count) words is =
    ap (λ (n : ℕ). Range n (small_word (text_at 4 words)) (small_word (text_at 5 words))) (small_is (text_at 3 words) offset is.0)
    ∙ ap (λ (n : ℕ). Range offset n (small_word (text_at 5 words))) (small_is (text_at 4 words) pin is.1)
    ∙ ap (λ (n : ℕ). Range offset pin n) (small_is (text_at 5 words) count is.2)
pin_itself (Hold pin) words is = ap (λ (n : ℕ). Hold n) (small_is (text_at 3 words) pin is)
pin_itself (Release pin) words is = ap (λ (n : ℕ). Release n) (small_is (text_at 3 words) pin is)

pin_is : (what : PinDo) (words : List Span) → pin_name what ≡ text_at 1 words → ArePins what words → pin_said words ≡ what
pin_is what words is each = subst (λ (w : List ℕ). pin_by w words ≡ what) is (pin_itself what words each)

-- so is a path
path_is : (word path : List ℕ) → tree_path_of word ≡ Some path → path_word path ≡ path
path_is word path e = ap (λ (w : List ℕ). path_word w) (sym (tree_path_is word path e)) ∙ tree_path_word word path e

-- the name of the file that a command makes
abbrev IsMade : Bool → List ℕ → Option (List ℕ) → Type 0
IsMade true word made = (name : List ℕ) × (made ≡ Some name) × (word ≡ name) × (name_word word ≡ name)
IsMade false word made = made ≡ None

same_made : (a b : Option (List ℕ)) → Some a ≡ Some b → a ≡ b
same_made a b e = cc

named_is : (o : Option (List ℕ)) (word : List ℕ) (made : Option (List ℕ)) → file_name_of word ≡ o → named o ≡ Some made → IsMade true word made
named_is None word made is e = cc
named_is (Some name) word made is e = (name, sym (same_made (Some name) made e), file_name_is word name is, file_name_word word name is)

made_is : (makes : Bool) (rest : List Span) (made : Option (List ℕ)) → made_by makes rest ≡ Some made → IsMade makes (name_behind_as rest) made
made_is true rest made e = named_is (file_name_of (name_behind_as rest)) (name_behind_as rest) made refl e
made_is false rest made e = sym (same_made None made e)

takes_are : (makes : Bool) (word : List ℕ) (made : Option (List ℕ)) (files : List File) → IsMade makes word made → (makes && is_some (file_of word files)) ≡ takes made files
takes_are true word made files (name, is, same, read) = ap (λ (w : List ℕ). is_some (file_of w files)) same ∙ sym (ap (λ (o : Option (List ℕ)). takes o files) is)
takes_are false word made files is = sym (ap (λ (o : Option (List ℕ)). takes o files) is)

-- a command of the first uAPI: what is sent makes a file only where the command does
never_made : (number : ℕ) → (number == GET_LINE) ≡ false → (number == GET_LINE) ≡ true → ⊥
never_made number other same = cc

by_command : (command : CommandV1) → (sent_as command == GET_LINE) ≡ true → makes_old (Some command) ≡ true
by_command ChipInfo e = cc
by_command LineInfo e = cc
by_command LineHandle e = refl
by_command LineEvent e = refl
by_command GetValues e = cc
by_command SetValues e = cc
by_command SetConfig e = cc

chip_makes : (o : Option CommandV1) (lines : ℕ) (bytes : List ℕ) → ((sent_if o lines bytes).cmd == GET_LINE) ≡ true → makes_old o ≡ true
chip_makes None lines bytes e = cc
chip_makes (Some command) lines bytes e = by_command command (subst (λ (n : ℕ). (n == GET_LINE) ≡ true) (sent_cmd command lines bytes) e)

no_command : (command : CommandV1) (lines : ℕ) (bytes : List ℕ) → (sent_as command == GET_LINE) ≡ false → ((sent_if (Some command) lines bytes).cmd == GET_LINE) ≡ true → ⊥
no_command command lines bytes other e = never_made (sent_as command) other (subst (λ (n : ℕ). (n == GET_LINE) ≡ true) (sent_cmd command lines bytes) e)

no_handle : (a b c : Bool) (lines : ℕ) (bytes : List ℕ) → ((sent_if (cond a (Some GetValues) (cond b (Some SetValues) (cond c (Some SetConfig) None))) lines bytes).cmd == GET_LINE) ≡ true → ⊥
no_handle true b c lines bytes e = no_command GetValues lines bytes refl e
no_handle false true c lines bytes e = no_command SetValues lines bytes refl e
no_handle false false true lines bytes e = no_command SetConfig lines bytes refl e
no_handle false false false lines bytes e = cc

no_event : (a : Bool) (bytes : List ℕ) → ((sent_if (cond a (Some GetValues) None) 1 bytes).cmd == GET_LINE) ≡ true → ⊥
no_event true bytes e = no_command GetValues 1 bytes refl e
no_event false bytes e = cc

sent_makes : (kind : TalkFileKind) (command : ℕ) (bytes : List ℕ) → ((sent_old kind command bytes).cmd == GET_LINE) ≡ true → makes_file (Some command) ≡ true
sent_makes Chip command bytes e = chip_makes (command_for OldChip command) 0 bytes e
sent_makes Request command bytes e = cc
sent_makes (Old OldChip) command bytes e = chip_makes (command_for OldChip command) 0 bytes e
sent_makes (Old (Handle lines)) command bytes e = absurd (no_handle (0xC040B408 == command) (0xC040B409 == command) (0xC054B40A == command) lines bytes e)
sent_makes (Old Event) command bytes e = absurd (no_event (0xC040B408 == command) bytes e)

old_none : (made : Option (List ℕ)) (kind : TalkFileKind) (command : ℕ) (bytes : List ℕ) (number : ℕ) → (number == GET_LINE) ≡ false
    → old_bytes_reply_said kind command number ≡ old_reply_said made kind command bytes number
old_none None kind command bytes number e = refl
old_none (Some name) kind command bytes number e = sym (ap (λ (b : Bool). if b then SaidOldMade (made_kind command bytes) name else old_bytes_reply_said kind command number) e)

not_so : false ≡ true → ⊥
not_so e = cc

-- how the result of a command is told that makes no file, by which command it is
abbrev bytes_by : Bool → Bool → Bool → Bool → ResultFormat
bytes_by a b c d = if a then Bytes else if b then Bytes else if c then Bytes else if d then Bytes else Silent

abbrev said_by : ℕ → Bool → Bool → Bool → Bool → SaidFormat
said_by number a b c d = if a then SaidBytes number else if b then SaidBytes number else if c then SaidBytes number else if d then SaidBytes number else SaidSilent

abbrev old_by : KindV1 → Bool → Bool → Bool → ResultFormat
old_by kind a b c = if a then OldBytes kind else if b then OldBytes kind else if c then OldBytes kind else Silent

abbrev old_said_by : KindV1 → ℕ → Bool → Bool → Bool → SaidFormat
old_said_by kind command a b c = if a then SaidOldBytes kind command else if b then SaidOldBytes kind command else if c then SaidOldBytes kind command else SaidSilent

module _ (names : Names) (slot : ℕ) (words : List Span) where
  abbrev doing : Action → Does
  doing action = acts action names slot words

  -- the same is done by an action of the words and by one of what they say
  abbrev Same : Action → SaidAction → Type 0
  Same action said = acts action names slot words ≡ acts_said said names slot words

  -- the same is told of each result
  abbrev Tells : ResultFormat → SaidFormat → Type 0
  Tells reply said = (got : Got) → told reply names slot words got ≡ told_said said names slot words got

  by_fault : (fault : Option Errno) (reply : ResultFormat) (said : SaidFormat) (got : Got) → told reply names slot words got ≡ told_said said names slot words got
      → replied_by fault reply names slot words got ≡ replied_said_by fault said names slot words got
  by_fault (Some errno) reply said got same = refl
  by_fault None reply said got same = same

  asks : (what : Do) (reply : ResultFormat) (said : SaidFormat) → Tells reply said → Same (Ask what reply) (SaidAsk what said)
  asks what reply said same = λ i. ask what (λ got. by_fault (refusal got) reply said got (same got) i)

  silent : (what : Do) → Same (Ask what Silent) (SaidAsk what SaidSilent)
  silent what = asks what Silent SaidSilent (λ got. refl)

  same_if : (test : Bool) (a b : Action) (c d : SaidAction) → Same a c → Same b d → Same (if test then a else b) (if test then c else d)
  same_if true a b c d p q = p
  same_if false a b c d p q = q

  -- what is written into the tree, and what is read of it
  pulls_are : (found : LineFile) (up : Option Bool) → Same (pulls found up) (pulls_said found up)
  pulls_are found None = refl
  pulls_are found (Some up) = silent (DoPull found.chip found.offset up)

  line_are : (found : LineFile) (value : List ℕ) → Same (writes_line found value) (writes_line_said found value)
  line_are found value =
      same_if found.is_pull (pulls found (pull_word value)) (Refuse Perm) (pulls_said found (pull_word value)) (SaidRefuse Perm) (pulls_are found (pull_word value)) refl

  lives_are : (device : List ℕ) (up : Option Bool) → name_word device ≡ device → Same (lives device up) (lives_said device up)
  lives_are device None is = refl
  lives_are device (Some up) is = ap (λ (d : List ℕ). doing (Ask (DoLive d up) Silent)) is ∙ silent (DoLive device up)

  tree_are : (o : Option (List ℕ)) (path value : List ℕ) → live_device path ≡ o → path_word path ≡ path → Same (writes_tree o path value) (writes_tree_said o path value)
  tree_are None path value e p = ap (λ (t : List ℕ). doing (Ask (DoWrite t value) Silent)) p ∙ silent (DoWrite path value)
  tree_are (Some device) path value e p = lives_are device (live_word value) (live_device_is_read path device e)

  writes_are : (found : Option LineFile) (path value : List ℕ) → path_word path ≡ path → Same (writes found path value) (writes_said found path value)
  writes_are (Some found) path value p = line_are found value
  writes_are None path value p = tree_are (live_device path) path value refl p

  reads_are : (found : Option LineFile) (path : List ℕ) → path_word path ≡ path → Same (reads found path) (reads_said found path)
  reads_are (Some found) path p = asks (DoLevel found.chip found.offset found.is_pull) (Level found.is_pull) (SaidLevel found.is_pull) (λ got. refl)
  reads_are None path p = ap (λ (t : List ℕ). doing (Ask (DoRead t) Value)) p ∙ asks (DoRead path) Value SaidValue (λ got. refl)

  -- a chip's file that is opened
  opens_are : (taken : Bool) (name word : List ℕ) → name_word (text_at 1 words) ≡ name → path_word (text_at 2 words) ≡ word → Same (opens taken slot (text_at 2 words)) (opens_said taken slot name word)
  opens_are true name word n p = refl
  opens_are false name word n p =
      ap (λ (t : List ℕ). doing (Ask (DoOpenChip slot t) Opened)) p
      ∙ asks (DoOpenChip slot word) Opened (SaidOpened name) (λ got. ap (λ (t : List ℕ). done (with_file (file_said t slot Chip) names)) n)

  -- what is read of a file, what is ready of it, and its end
  file_are : (o : Option File) (can_be_read : TalkFileKind → Bool) (len : ℕ) (reply : ResultFormat) (said : SaidFormat) → Tells reply said
      → Same (reads_file o can_be_read len reply) (reads_file_said o can_be_read len said)
  file_are None can_be_read len reply said same = refl
  file_are (Some found) can_be_read len reply said same =
      same_if (can_be_read found.kind) (Ask (DoReadFile found.slot len) reply) (Refuse Inval) (SaidAsk (DoReadFile found.slot len) said) (SaidRefuse Inval)
      (asks (DoReadFile found.slot len) reply said same) refl

  polls_are : (o : Option File) → Same (polls o) (polls_said o)
  polls_are None = refl
  polls_are (Some found) = asks (DoPoll found.slot) Ready SaidReady (λ got. refl)

  closes_are : (o : Option File) → Same (closes o) (closes_said o)
  closes_are None = refl
  closes_are (Some found) = asks (DoClose found.slot) Closed SaidClosed (λ got. refl)

  -- a chip over requests
  aggregates_are : (label : List ℕ) (named : List (Option File)) → Same (aggregates label named) (aggregates_said label named)
  aggregates_are label named =
      let joined = DoAggregate label (padded JOINED_MAX (slots_of named)) (length (slots_of named)) in
      same_if (list_any (λ file. not (is_some file)) named) (Refuse BadF) (if list_any is_chip_file named then Refuse Inval else Ask joined Silent)
      (SaidRefuse BadF) (if list_any is_chip_file named then SaidRefuse Inval else SaidAsk joined SaidSilent) refl
      (same_if (list_any is_chip_file named) (Refuse Inval) (Ask joined Silent) (SaidRefuse Inval) (SaidAsk joined SaidSilent) refl (silent joined))

  -- how the result of a command is told
  bytes_told : (number : ℕ) (a b c d : Bool) (got : Got) → command_word (text_at 2 words) ≡ number → told (bytes_by a b c d) names slot words got ≡ told_said (said_by number a b c d) names slot words got
  bytes_told number true b c d got is = ap (λ (n : ℕ). shows (structure_text n (bytes_of got)) names) is
  bytes_told number false true c d got is = ap (λ (n : ℕ). shows (structure_text n (bytes_of got)) names) is
  bytes_told number false false true d got is = ap (λ (n : ℕ). shows (structure_text n (bytes_of got)) names) is
  bytes_told number false false false true got is = ap (λ (n : ℕ). shows (structure_text n (bytes_of got)) names) is
  bytes_told number false false false false got is = refl

  number_told : (makes : Bool) (number : ℕ) (made : Option (List ℕ)) (got : Got) → (number == GET_LINE) ≡ makes → command_word (text_at 2 words) ≡ number → IsMade makes (made_name words) made
      → told (command_reply number) names slot words got ≡ told_said (reply_said made number) names slot words got
  number_told true number made got e is (name, so, same, read) =
      ap (λ (b : Bool). told (if b then Made else bytes_by (number == GET_CHIPINFO) (number == GET_LINEINFO) (number == GET_LINEINFO_WATCH) (number == LINE_GET_VALUES)) names slot words got) e
      ∙ ap (λ (t : List ℕ). shows (fd_text (bytes_of got)) (with_file (file_said t slot Request) names)) read
      ∙ sym (ap (λ (b : Bool). told_said (if b then SaidMade name else bytes_reply_said number) names slot words got) e)
      ∙ sym (ap (λ (o : Option (List ℕ)). told_said (reply_said o number) names slot words got) so)
  number_told false number made got e is so =
      ap (λ (b : Bool). told (if b then Made else bytes_by (number == GET_CHIPINFO) (number == GET_LINEINFO) (number == GET_LINEINFO_WATCH) (number == LINE_GET_VALUES)) names slot words got) e
      ∙ bytes_told number (number == GET_CHIPINFO) (number == GET_LINEINFO) (number == GET_LINEINFO_WATCH) (number == LINE_GET_VALUES) got is
      ∙ sym (ap (λ (o : Option (List ℕ)). told_said (reply_said o number) names slot words got) so)

  new_told : (kind : TalkFileKind) (command : ℕ) (bytes : List ℕ) (made : Option (List ℕ)) → command_word (text_at 2 words) ≡ command → IsMade (command == GET_LINE) (made_name words) made
      → Tells (command_reply (sent_new kind command bytes).cmd) (reply_said made (sent_new kind command bytes).cmd)
  new_told Chip command bytes made is so = λ got. number_told (command == GET_LINE) command made got refl is so
  new_told Request command bytes made is so = λ got. number_told (command == GET_LINE) command made got refl is so
  new_told (Old kind) command bytes None is so = λ got. refl
  new_told (Old kind) command bytes (Some name) is so = λ got. refl

  bytes_are : (found : File) (command : ℕ) (bytes : List ℕ) (made : Option (List ℕ)) → command_word (text_at 2 words) ≡ command → IsMade (command == GET_LINE) (made_name words) made
      → Same (ioctls_bytes found slot command bytes) (ioctls_bytes_said found slot command made bytes)
  bytes_are found command bytes made is so =
      let sent = sent_new found.kind command bytes in
      asks (DoIoctl found.slot sent.cmd sent.len sent.bytes slot) (command_reply sent.cmd) (reply_said made sent.cmd) (new_told found.kind command bytes made is so)

  command_are : (o : Option File) (files : List File) (command : ℕ) (made : Option (List ℕ)) → command_word (text_at 2 words) ≡ command → IsMade (command == GET_LINE) (made_name words) made
      → Same (ioctls o (takes_name words files) slot words) (ioctls_said o slot command made files (bytes_said (behind_three words)))
  command_are None files command made is so = refl
  command_are (Some found) files command made is so =
      let bytes = bytes_said (behind_three words) in
      ap (λ (n : ℕ). doing (if (n == GET_LINE) && is_some (file_of (made_name words) files) then Refuse Exist else ioctls_bytes found slot n bytes)) is
      ∙ ap (λ (taken : Bool). doing (if taken then Refuse Exist else ioctls_bytes found slot command bytes)) (takes_are (command == GET_LINE) (made_name words) made files so)
      ∙ same_if (takes made files) (Refuse Exist) (ioctls_bytes found slot command bytes) (SaidRefuse Exist) (ioctls_bytes_said found slot command made bytes) refl (bytes_are found command bytes made is so)

  -- and of one of the first uAPI
  old_bytes_told : (kind : KindV1) (command : ℕ) (a b c : Bool) (got : Got) → old_command_word (text_at 2 words) ≡ command
      → told (old_by kind a b c) names slot words got ≡ told_said (old_said_by kind command a b c) names slot words got
  old_bytes_told kind command true b c got is = ap (λ (n : ℕ). shows (old_structure_text kind n (bytes_said (behind_three words)) (bytes_of got)) names) is
  old_bytes_told kind command false true c got is = ap (λ (n : ℕ). shows (old_structure_text kind n (bytes_said (behind_three words)) (bytes_of got)) names) is
  old_bytes_told kind command false false true got is = ap (λ (n : ℕ). shows (old_structure_text kind n (bytes_said (behind_three words)) (bytes_of got)) names) is
  old_bytes_told kind command false false false got is = refl

  old_number_told : (gets makes : Bool) (kind : TalkFileKind) (command number : ℕ) (made : Option (List ℕ)) (got : Got) → (number == GET_LINE) ≡ gets → (gets ≡ true → makes ≡ true)
      → old_command_word (text_at 2 words) ≡ command → IsMade makes (made_name words) made
      → told (old_reply kind number) names slot words got ≡ told_said (old_reply_said made kind command (bytes_said (behind_three words)) number) names slot words got
  old_number_told true true kind command number made got e fits is (name, so, same, read) =
      let bytes = bytes_said (behind_three words) in
      ap (λ (b : Bool). told (if b then OldMade else old_by (kind_v1 kind) (number == GET_CHIPINFO) (number == GET_LINEINFO) (number == LINE_GET_VALUES)) names slot words got) e
      ∙ ap (λ (t : List ℕ). shows (fd_text (bytes_of got)) (with_file (file_said t slot (made_kind (old_command_word (text_at 2 words)) bytes)) names)) read
      ∙ ap (λ (n : ℕ). shows (fd_text (bytes_of got)) (with_file (file_said name slot (made_kind n bytes)) names)) is
      ∙ sym (ap (λ (b : Bool). told_said (if b then SaidOldMade (made_kind command bytes) name else old_bytes_reply_said kind command number) names slot words got) e)
      ∙ sym (ap (λ (o : Option (List ℕ)). told_said (old_reply_said o kind command bytes number) names slot words got) so)
  old_number_told true false kind command number made got e fits is so = absurd (not_so (fits refl))
  old_number_told false makes kind command number made got e fits is so =
      ap (λ (b : Bool). told (if b then OldMade else old_by (kind_v1 kind) (number == GET_CHIPINFO) (number == GET_LINEINFO) (number == LINE_GET_VALUES)) names slot words got) e
      ∙ old_bytes_told (kind_v1 kind) command (number == GET_CHIPINFO) (number == GET_LINEINFO) (number == LINE_GET_VALUES) got is
      ∙ ap (λ (reply : SaidFormat). told_said reply names slot words got) (old_none made kind command (bytes_said (behind_three words)) number e)

  old_bytes_are : (found : File) (command : ℕ) (made : Option (List ℕ)) → old_command_word (text_at 2 words) ≡ command → IsMade (makes_file (Some command)) (made_name words) made
      → Same (old_ioctls_bytes found slot command (bytes_said (behind_three words))) (old_ioctls_bytes_said found slot command made (bytes_said (behind_three words)))
  old_bytes_are found command made is so =
      let bytes = bytes_said (behind_three words) in
      let sent = sent_old found.kind command bytes in
      asks (DoIoctl found.slot sent.cmd sent.len sent.bytes slot) (old_reply found.kind sent.cmd) (old_reply_said made found.kind command bytes sent.cmd)
      (λ got. old_number_told (sent.cmd == GET_LINE) (makes_file (Some command)) found.kind command sent.cmd made got refl (sent_makes found.kind command bytes) is so)

  old_command_are : (o : Option File) (files : List File) (command : ℕ) (made : Option (List ℕ)) → old_number_of (text_at 2 words) ≡ Some command → IsMade (makes_file (Some command)) (made_name words) made
      → Same (old_ioctls o (takes_old_name words files) slot words) (old_ioctls_said o slot command made files (bytes_said (behind_three words)))
  old_command_are None files command made is so = refl
  old_command_are (Some found) files command made is so =
      let bytes = bytes_said (behind_three words) in
      ap (λ (o : Option ℕ). doing (if makes_file o && is_some (file_of (made_name words) files) then Refuse Exist else old_ioctls_bytes found slot (or_else 0 o) bytes)) is
      ∙ ap (λ (taken : Bool). doing (if taken then Refuse Exist else old_ioctls_bytes found slot command bytes)) (takes_are (makes_file (Some command)) (made_name words) made files so)
      ∙ same_if (takes made files) (Refuse Exist) (old_ioctls_bytes found slot command bytes) (SaidRefuse Exist) (old_ioctls_bytes_said found slot command made bytes) refl
      (old_bytes_are found command made (ap (λ (o : Option ℕ). or_else 0 o) is) so)

  -- each statement, one after the other
  row_is : (said : Said) (files : List File) → AreValues said words → Same (action_of (Some (keyword_said said)) files slot words) (action_said said files slot words)
  row_is (Probe label lines) files is =
      ap (λ (n : ℕ). doing (Ask (DoProbe (label_word (text_at 1 words)) n) Silent)) (number_is 1 LINES_MAX (text_at 2 words) lines is.1)
      ∙ ap (λ (name : List ℕ). doing (Ask (DoProbe name lines) Silent)) (label_says (text_at 1 words) label is.0)
      ∙ silent (DoProbe label lines)
  row_is (Unplug chip) files is = ap (λ (n : ℕ). doing (unplugs n)) (place_is (text_at 1 words) chip is) ∙ silent (DoUnplug chip)
  row_is (MakeDir path) files is = ap (λ (p : List ℕ). doing (Ask (DoMakeDir p) Silent)) (tree_path_word (text_at 1 words) path is) ∙ silent (DoMakeDir path)
  row_is (RemoveDir path) files is = ap (λ (p : List ℕ). doing (Ask (DoRemoveDir p) Silent)) (tree_path_word (text_at 1 words) path is) ∙ silent (DoRemoveDir path)
  row_is (Write path value) files is =
      ap (λ (w : List ℕ). doing (writes (line_file w) w (label_word (text_at 2 words)))) (tree_path_is (text_at 1 words) path is.0)
      ∙ ap (λ (w : List ℕ). doing (writes (line_file path) path w)) (label_says (text_at 2 words) value is.1)
      ∙ writes_are (line_file path) path value (path_is (text_at 1 words) path is.0)
  row_is (Read path) files is =
      ap (λ (w : List ℕ). doing (reads (line_file w) w)) (tree_path_is (text_at 1 words) path is) ∙ reads_are (line_file path) path (path_is (text_at 1 words) path is)
  row_is (Clock mono real) files is =
      ap (λ (n : ℕ). doing (Ask (DoTick n (number_word 0 0xFFFFFFFFFFFFFFFF (text_at 2 words))) Silent)) (number_is 0 0xFFFFFFFFFFFFFFFF (text_at 1 words) mono is.0)
      ∙ ap (λ (n : ℕ). doing (Ask (DoTick mono n) Silent)) (number_is 0 0xFFFFFFFFFFFFFFFF (text_at 2 words) real is.1)
      ∙ silent (DoTick mono real)
  row_is (Fault nth) files is = ap (λ (n : ℕ). doing (Ask (DoPlan n) Silent)) (number_is 1 1000000 (text_at 1 words) nth is) ∙ silent (DoPlan nth)
  row_is (Accept bits) files is = ap (λ (n : ℕ). doing (Ask (DoAccept n) Silent)) (number_is 0 0xFFFFFFFFFFFFFFFF (text_at 1 words) bits is) ∙ silent (DoAccept bits)
  row_is (Aggregate label) files is =
      let named = files_named JOINED_MAX (behind_two words) files in
      ap (λ (name : List ℕ). doing (aggregates name named)) (label_says (text_at 1 words) label is) ∙ aggregates_are label named
  row_is (Pin chip what) files is =
      ap (λ (n : ℕ). doing (Ask (DoPin n (pin_said words)) Silent)) (place_is (text_at 2 words) chip is.1)
      ∙ ap (λ (w : PinDo). doing (Ask (DoPin chip w) Silent)) (pin_is what words is.0 is.2)
      ∙ silent (DoPin chip what)
  row_is (Irq what chip offset) files is =
      ap (λ (n : ℕ). doing (Ask (DoIrq n (small_word (text_at 3 words)) (irq_word (text_at 1 words))) Silent)) (place_is (text_at 2 words) chip is.1)
      ∙ ap (λ (n : ℕ). doing (Ask (DoIrq chip n (irq_word (text_at 1 words))) Silent)) (small_is (text_at 3 words) offset is.2)
      ∙ ap (λ (w : IrqDo). doing (Ask (DoIrq chip offset w) Silent)) (irq_is (text_at 1 words) what is.0)
      ∙ silent (DoIrq chip offset what)
  row_is (Open name word) files is =
      ap (λ (w : List ℕ). doing (opens (is_some (file_of w files)) slot (text_at 2 words))) (file_name_is (text_at 1 words) name is.0)
      ∙ opens_are (is_some (file_of name files)) name word (file_name_word (text_at 1 words) name is.0) (chip_word (text_at 2 words) word is.1)
  row_is (Ioctl command made) files is =
      command_are (file_of (text_at 1 words) files) files command made (ap (λ (o : Option ℕ). or_else 0 o) is.0) (made_is (command == GET_LINE) (behind_three words) made is.1)
  row_is (Events len) files is =
      let file = file_of (text_at 1 words) files in
      ap (λ (n : ℕ). doing (reads_file file is_request n Edges)) (number_is 0 49152 (text_at 2 words) len is) ∙ file_are file is_request len Edges SaidEdges (λ got. refl)
  row_is (OldIoctl command made) files is =
      old_command_are (file_of (text_at 1 words) files) files command made is.0 (made_is (makes_file (Some command)) (behind_three words) made is.1)
  row_is (OldEvents len) files is =
      let file = file_of (text_at 1 words) files in
      ap (λ (n : ℕ). doing (reads_file file is_old_event (48 * (n / 16)) OldEdges)) (number_is 0 16384 (text_at 2 words) len is)
      ∙ file_are file is_old_event (48 * (len / 16)) OldEdges SaidOldEdges (λ got. refl)
  row_is (Changes len) files is =
      let file = file_of (text_at 1 words) files in
      ap (λ (n : ℕ). doing (reads_file file is_chip n Infos)) (number_is 0 9216 (text_at 2 words) len is) ∙ file_are file is_chip len Infos SaidInfos (λ got. refl)
  row_is Poll files is = polls_are (file_of (text_at 1 words) files)
  row_is Close files is = closes_are (file_of (text_at 1 words) files)
  row_is said files is = refl

-- wherever a statement stands, and in its section
pub asks_what_it_says : (said : Said) (words : List Span) (files : List File) (names : Names) (slot : ℕ) → Spells words said
    → acts (action_of (keyword_of (text_at 0 words)) files slot words) names slot words ≡ acts_said (action_said said files slot words) names slot words
asks_what_it_says said words files names slot spelled =
    ap (λ o. acts (action_of o files slot words) names slot words) spelled.keyword ∙ row_is names slot words said files spelled.each

-- in its section
pub acts_here : (in_setup : Bool) (said : Said) (files : List File) (names : Names) (slot : ℕ) (words : List Span) → Spells words said
    → acts (action_here in_setup files slot words) names slot words ≡ acts_said (action_said_here in_setup said files slot words) names slot words
acts_here in_setup said files names slot words spelled =
    ap (λ o. acts (only_in_setup in_setup o (action_of (keyword_of (text_at 0 words)) files slot words)) names slot words) spelled.keyword
    ∙ same_if names slot words (is_out_of_place in_setup (Some (keyword_said said))) (Refuse Inval) (action_of (keyword_of (text_at 0 words)) files slot words) (SaidRefuse Inval)
    (action_said said files slot words) refl (asks_what_it_says said words files names slot spelled)

pub statements_ask_what_they_say : StatementsAskWhatTheySay
statements_ask_what_they_say said words names slot spelled plain =
    ap (λ o. does_by (kind_of o) names slot words) spelled.keyword
    ∙ ap (λ kind. does_by kind names slot words) plain
    ∙ acts_here names.in_setup said names.files names slot words spelled

-- what a statement does by its words in its section is what an action does that it says
pub as_said : (in_setup : Bool) (said : Said) (files items : List TalkFile) (action arm : SaidAction) (names : Names) (slot : ℕ) (words all : List Span) → Spells words said → files ≡ items → all ≡ words
    → action ≡ action_said_here in_setup said (map file_in files) slot words → action ≡ arm
    → acts (action_here in_setup (map file_in items) slot all) names slot all ≡ acts_said arm names slot all
as_said in_setup said files items action arm names slot words all spelled same copied says is =
    subst (λ (ws : List Span). acts (action_here in_setup (map file_in items) slot ws) names slot ws ≡ acts_said arm names slot ws) (sym copied)
    (ap (λ (rows : List TalkFile). acts (action_here in_setup (map file_in rows) slot words) names slot words) (sym same)
    ∙ acts_here in_setup said (map file_in files) names slot words spelled
    ∙ ap (λ (a : SaidAction). acts_said a names slot words) (sym says ∙ is))

pub kind_is : (words : List Span) (said : Said) → Spells words said → kind_of (keyword_of (text_at 0 words)) ≡ kind_of (Some (keyword_said said))
kind_is words said spelled = ap (λ o. kind_of o) spelled.keyword

-- the turns of a step, and the name of a tool
turns_at : (said : Said) (words : List Span) (turns : ℕ) → turns_said said ≡ Some turns → AreValues said words → turns ≡ turns_word (text_at 2 words)
turns_at (Step name n) words turns e is = sym (ap (λ (o : Option ℕ). or_zero o) (is.1 ∙ e))
turns_at said words turns e is = cc

pub turns_are : (words : List Span) (said : Said) (turns : ℕ) → turns_said said ≡ Some turns → Spells words said → turns ≡ turns_word (text_at 2 words)
turns_are words said turns e spelled = turns_at said words turns e spelled.each

name_at : (said : Said) (words : List Span) (name : List ℕ) → name_said said ≡ Some name → AreValues said words → name ≡ text_at 1 words
name_at (Start given) words name e is = sym (file_name_is (text_at 1 words) name (is ∙ e))
name_at (Step given n) words name e is = sym (file_name_is (text_at 1 words) name (is.0 ∙ e))
name_at (Stop given) words name e is = sym (file_name_is (text_at 1 words) name (is ∙ e))
name_at said words name e is = cc

pub name_is : (words : List Span) (said : Said) (name : List ℕ) → name_said said ≡ Some name → Spells words said → name ≡ text_at 1 words
name_is words said name e spelled = name_at said words name e spelled.each
