-- The end of an actor's section closes its files in the order of their numbers.
use Rattle.std.proofs.Common.{◌≡◌, ◌≤◌, ◌<◌, ◌-◌, inl, inr, ℕ, Bool, true, false, cond, List, [], ◌∷◌, ◌++◌, length, map, get_or, Option, None, Some, refl, sym, ◌∙◌, ap, subst, arith, eq-eqb}
use Rattle.std.specs.Prelude.{◌==◌, nat_eq, nat_lt}
use Rattle.std.specs.List.{filter}
use Rattle.std.proofs.lemmas.Bool.{true≢false}
use Rattle.std.proofs.lemmas.Bool.Decides.{nat_tests}
use Rattle.std.proofs.lemmas.List.{append_assoc, append-nil}
use Rattle.gl_base.specs.Operation.{refusal}
use Rattle.gl_base.specs.Ordered.{ordered, put_in_order}
use Rattle.gl_base.specs.Rows.{Each, without_first}
use Rattle.gl_base.specs.Words.{Span}
use Rattle.gl_base.specs.declared.command.TheConstants.{GET_LINE}
use Rattle.gl_base.specs.declared.errno.Errno.TheVariants.{BadF}
use Rattle.gl_base.specs.declared.lines.Lines.{Lines}
use Rattle.gl_base.specs.declared.operation.Do.{Do}
use Rattle.gl_base.specs.declared.operation.Do.TheVariants.{Probe as DoProbe, Unplug as DoUnplug, MakeDir as DoMakeDir, RemoveDir as DoRemoveDir, Write as DoWrite, Read as DoRead, Live as DoLive, Tick as DoTick, Pin as DoPin, Irq as DoIrq, Pull as DoPull, Level as DoLevel, OpenChip as DoOpenChip, Find as DoFind, Ioctl as DoIoctl, ReadFile, Poll, Close as DoClose, Plan, Accept, Aggregate}
use Rattle.gl_base.specs.declared.operation.Got.{Got}
use Rattle.gl_uapi.specs.Command.{command_of}
use Rattle.gl_world.specs.Deeds.{deed_in, deeds_from, deeds_of, entries_in}
use Rattle.gl_world.specs.History.{AnsweredFrom, Legal, entries_of, fold, fold_from}
use Rattle.gl_world.proofs.Deeds.{deeds_append, deeds_entries}
use Rattle.gl_world.proofs.Histories.{answered_prefix, answered_rest, entries_append, fold_append, placed_prefix}
use Rattle.gl_client.specs.Program.{Program, done, print, ask, then_by}
use Rattle.gl_driver.specs.Told.{Told}
use Rattle.gl_base.specs.declared.op.Op.{Op}
use Rattle.gl_model.specs.Calling.{AreOfCalls, Called, IsCalled, made_by}
use Rattle.gl_model.specs.Claiming.{is_claim_of}
use Rattle.gl_model.specs.Holders.{HoldersAgree}
use Rattle.gl_model.specs.declared.device_call.DeviceCall.TheVariants.{Commanding}
use Rattle.gl_model.specs.Parts.{Makes, last_reply}
use Rattle.gl_model.specs.World.{World, Request}
use Rattle.gl_model.specs.declared.call.Call.TheVariants.{OpenChip}
use Rattle.gl_model.specs.declared.reply.Reply.{Reply}
use Rattle.gl_model.specs.declared.reply.Reply.TheVariants.{Number, Refused}
use Rattle.gl_model.proofs.FinishingCalls.{calls_finish_claims}
use Rattle.gl_model.proofs.HoldersLaw.{holders_always_agree}
use Rattle.gl_core.specs.Kept.{Kept, StandsFor}
use Rattle.gl_asking.specs.Handed.{command_in}
use Rattle.gl_asking.specs.Opened.{place_named}
use Rattle.gl_core.specs.Device.{OneDeed, OneEntry, core}
use Rattle.gl_script.specs.Section.{SaidSection}
use Rattle.gl_script.specs.declared.section.SectionKind.TheVariants.{Setup, Actor, After}
use Rattle.gl_talk.specs.Numbers.{CloseByNumber, Numbered, NumbersFiles, has_less, has_slot, numbered_behind, with_number}
use Rattle.gl_talk.specs.Open.{Names, left_setup, no_names, setup_names, slots_in_order}
use Rattle.gl_talk.specs.Talk.{closes_all, quits, says}
use Rattle.gl_talk.proofs.FileNumbers.{files_close_by_number, setup_closes_by_number}
use Rattle.gl_talk.proofs.InARow.{are_statements_and_the_end}
use Rattle.gl_asking.specs.declared.kinds.Asking.{Asking}
use Rattle.gl_asking.specs.declared.kinds.Asking.TheVariants.{Calls, Plans, Accepts, Refuses}
use Rattle.gl_asking.specs.Asking.{asking, buffer_of, files_behind, got_of, lines_named, made_by as made_of_kind, made_on, on_file, once, with_request}
use Rattle.gl_asking.specs.Driving.{op_asked}
use Rattle.gl_session.specs.Alone.{IsAlone, PlayedSession}
use Rattle.gl_check.specs.Drivers.{DriverKind, DriverOver, start_maps}
use Rattle.gl_check.specs.Joining.{Maps, asking_with}
use Rattle.gl_check.specs.Programs.{actor_of, after_of, setup_of}
use Rattle.gl_session.specs.Closings.{ActorsCloseByNumber, AreKept, ClosesByNumber, OneActorClosesByNumber, after_statements, section_statements, closed_by, closed_in, number_in, numbers_of}
use Rattle.gl_asking.specs.Files.{OpenFile, chip_file, file_in, is_in, line_file, without_file}
use Rattle.gl_check.specs.Many.{ActorPlayed, AllPlayed, Texts, actor_sections, no_section, words_of}
use Rattle.gl_check.specs.One.{said_in_kind}
use Rattle.gl_check.specs.Turns.{Carried, Did, Exchange, Follows, IsDone, Said, Turn, carried, did_by}
use Rattle.gl_session.proofs.Numbering.{ClaimsFrom, IsAnswer, IsMade, IsRefused, get_line_answers, next_after, open_answers}
use Rattle.gl_session.proofs.Plays.{did_append, follows_then}
use Rattle.gl_session.proofs.Sections.{says_then}

-- files by their numbers

abbrev numbered : List OpenFile → List Numbered
numbered files = map (λ (file : OpenFile). record { slot = file.slot; number = file.fd }) files

-- each file has a greater number than those before it
abbrev Rises : List OpenFile → Type 0
Rises [] = Unit {0}
Rises (f ∷ fs) = Each (λ (g : OpenFile). f.fd < g.fd) fs × Rises fs

abbrev AreBelow : ℕ → List OpenFile → Type 0
AreBelow n files = Each (λ (f : OpenFile). f.fd < n) files

below_more : (n m : ℕ) (files : List OpenFile) → n ≤ m → AreBelow n files → AreBelow m files
below_more n m [] le h = tt
below_more n m (f ∷ fs) le h = let lt : f.fd < n = h.0 in (omega (arith, lt, le), below_more n m fs le h.1)

each_added : {X : Type 0} (P : X → Type 0) (files : List X) (f : X) → P f → Each P files → Each P (files ++ f ∷ [])
each_added P [] f p h = (p, tt)
each_added P (x ∷ files) f p h = (h.0, each_added P files f p h.1)

rises_added : (files : List OpenFile) (f : OpenFile) → AreBelow f.fd files → Rises files → Rises (files ++ f ∷ [])
rises_added [] f below h = (tt, tt)
rises_added (x ∷ files) f below h = (each_added (λ (g : OpenFile). x.fd < g.fd) files f below.0 h.0, rises_added files f below.1 h.1)

each_left : (P : OpenFile → Type 0) (slot : ℕ) (files : List OpenFile) → Each P files → Each P (without_file slot files)
each_left P slot [] h = tt
each_left P slot (x ∷ files) h = by (is_in slot x) (each_left P slot files h.1)
  where
    by : (b : Bool) → Each P (without_file slot files) → Each P (cond b files (x ∷ without_file slot files))
    by true later = h.1
    by false later = (h.0, later)

rises_left : (slot : ℕ) (files : List OpenFile) → Rises files → Rises (without_file slot files)
rises_left slot [] h = tt
rises_left slot (x ∷ files) h = by (is_in slot x) (rises_left slot files h.1)
  where
    by : (b : Bool) → Rises (without_file slot files) → Rises (cond b files (x ∷ without_file slot files))
    by true later = h.1
    by false later = (each_left (λ (g : OpenFile). x.fd < g.fd) slot files h.0, later)

same_test : (slot : ℕ) (file : OpenFile) → is_in slot file ≡ nat_eq slot file.slot
same_test slot file = by (is_in slot file) refl
  where
    by : (b : Bool) → is_in slot file ≡ b → b ≡ nat_eq slot file.slot
    by true e = grind (arith, nat_tests)
    by false e = grind (arith, nat_tests)

numbered_left : (slot : ℕ) (files : List OpenFile) → numbered (without_file slot files) ≡ without_first (has_slot slot) (numbered files)
numbered_left slot [] = refl
numbered_left slot (x ∷ files) =
    by (is_in slot x) (numbered_left slot files)
    ∙ ap (λ b. cond b (numbered files) (record { slot = x.slot; number = x.fd } ∷ without_first (has_slot slot) (numbered files))) (same_test slot x)
  where
    by : (b : Bool) → numbered (without_file slot files) ≡ without_first (has_slot slot) (numbered files)
        → numbered (cond b files (x ∷ without_file slot files)) ≡ cond b (numbered files) (record { slot = x.slot; number = x.fd } ∷ without_first (has_slot slot) (numbered files))
    by true later = refl
    by false later = ap (λ (l : List Numbered). record { slot = x.slot; number = x.fd } ∷ l) later

numbered_added : (files : List OpenFile) (f : OpenFile) → numbered (files ++ f ∷ []) ≡ numbered files ++ record { slot = f.slot; number = f.fd } ∷ []
numbered_added [] f = refl
numbered_added (x ∷ files) f = ap (λ (l : List Numbered). record { slot = x.slot; number = x.fd } ∷ l) (numbered_added files f)

numbered_below : (n : ℕ) (files : List OpenFile) → AreBelow n files → Each (λ (file : Numbered). file.number < n) (numbered files)
numbered_below n [] h = tt
numbered_below n (f ∷ fs) h = (h.0, numbered_below n fs h.1)

-- The end closes the files one after another, in the order of the table.

first_in : (f : OpenFile) (fs : List OpenFile) → file_in f.slot (f ∷ fs) ≡ Some f
first_in f fs = ap (λ b. cond b (Some f) (file_in f.slot fs)) (eq-eqb f.slot f.slot refl)

first_gone : (f : OpenFile) (fs : List OpenFile) → without_file f.slot (f ∷ fs) ≡ fs
first_gone f fs = ap (λ b. cond b fs (f ∷ without_file f.slot fs)) (eq-eqb f.slot f.slot refl)

abbrev slots_of : List OpenFile → List ℕ
slots_of files = map (λ (file : OpenFile). file.slot) files

-- files in the order of their numbers
put_number : (n : ℕ) (fs : List OpenFile) → Each (λ (g : OpenFile). n < g.fd) fs → put_in_order nat_lt n (numbers_of fs) ≡ n ∷ numbers_of fs
put_number n [] h = refl
put_number n (g ∷ gs) h =
    let less : nat_lt n g.fd ≡ true = let lt = h.0 in grind (arith, nat_tests) in
    ap (λ b. cond b (n ∷ g.fd ∷ numbers_of gs) (g.fd ∷ put_in_order nat_lt n (numbers_of gs))) less

ordered_numbers : (files : List OpenFile) → Rises files → ordered nat_lt (numbers_of files) ≡ numbers_of files
ordered_numbers [] h = refl
ordered_numbers (f ∷ fs) h = ap (put_in_order nat_lt f.fd) (ordered_numbers fs h.1) ∙ put_number f.fd fs h.0

put_numbered : (f : OpenFile) (fs : List OpenFile) → Each (λ (g : OpenFile). f.fd < g.fd) fs
    → put_in_order has_less (record { slot = f.slot; number = f.fd }) (numbered fs) ≡ record { slot = f.slot; number = f.fd } ∷ numbered fs
put_numbered f [] h = refl
put_numbered f (g ∷ gs) h =
    let less : nat_lt f.fd g.fd ≡ true = let lt = h.0 in grind (arith, nat_tests) in
    ap (λ b. cond b (record { slot = f.slot; number = f.fd } ∷ numbered (g ∷ gs)) (record { slot = g.slot; number = g.fd } ∷ put_in_order has_less (record { slot = f.slot; number = f.fd }) (numbered gs))) less

ordered_numbered : (files : List OpenFile) → Rises files → ordered has_less (numbered files) ≡ numbered files
ordered_numbered [] h = refl
ordered_numbered (f ∷ fs) h = ap (put_in_order has_less (record { slot = f.slot; number = f.fd })) (ordered_numbered fs h.1) ∙ put_numbered f fs h.0

slots_numbered : (files : List OpenFile) → map (λ (file : Numbered). file.slot) (numbered files) ≡ slots_of files
slots_numbered [] = refl
slots_numbered (f ∷ fs) = ap (λ l. f.slot ∷ l) (slots_numbered fs)

in_table_order : (names : Names) (files : List OpenFile) → Rises files → CloseByNumber names (numbered files) → slots_in_order names ≡ slots_of files
in_table_order names files rises close = close ∙ ap (λ (l : List Numbered). map (λ (file : Numbered). file.slot) l) (ordered_numbered files rises) ∙ slots_numbered files

-- What the device makes of an operation, in the worlds from the number low on to the number high.
record Fresh (files : List OpenFile) (what : Do) (reply : Reply) (wrote : List ℕ) (low high : ℕ) : Type 0 where
  pub number : ℕ
  pub above : low ≤ number
  pub is : numbered (files_behind what reply files) ≡ numbered_behind (numbered files) what (got_of what reply wrote) number
  pub below : AreBelow high (files_behind what reply files)
  pub rises : Rises (files_behind what reply files)

-- an actor after what it has seen, with these files open
record Stands (actor : ℕ) (seen : List OneEntry) (files : List OpenFile) : Type 0 where
  pub calls : AreOfCalls StandsFor actor (entries_of actor seen)
  pub below : AreBelow (fold core seen).next files
  pub rises : Rises files

-- an actor's deeds are those up to here, and those after
record Parted (actor : ℕ) (w : World) (es : List OneEntry) (xs ys : List OneDeed) : Type 0 where
  pub before : List OneEntry
  pub behind : List OneEntry
  pub at : es ≡ before ++ behind
  pub first : deeds_from core w actor before ≡ xs
  pub later : deeds_from core (fold_from core w before) actor behind ≡ ys

abbrev rest_of : List OneDeed → List OneDeed
rest_of [] = []
rest_of (d ∷ ds) = ds

abbrev first_or : OneDeed → List OneDeed → OneDeed
first_or d [] = d
first_or d (x ∷ ds) = x

parted : (actor : ℕ) (w : World) (es : List OneEntry) (xs ys : List OneDeed) → deeds_from core w actor es ≡ xs ++ ys → Parted actor w es xs ys
parted actor w es [] ys is = record { before = []; behind = es; at = refl; first = refl; later = is }
parted actor w [] (x ∷ xs) ys is = let n : 0 ≡ length (x ∷ (xs ++ ys)) = ap (λ (l : List OneDeed). length l) is in absurd (omega arith)
parted actor w (e ∷ es) (x ∷ xs) ys is = by (e.actor == actor) refl is (λ some is_these. parted actor (core.world_after w e.actor e.call) es some ys is_these)
  where
    after : World
    after = core.world_after w e.actor e.call

    here : OneDeed
    here = deed_in core w e

    by : (b : Bool) → e.actor == actor ≡ b → cond b (here ∷ deeds_from core after actor es) (deeds_from core after actor es) ≡ x ∷ (xs ++ ys)
        → ((some : List OneDeed) → deeds_from core after actor es ≡ some ++ ys → Parted actor after es some ys) → Parted actor w (e ∷ es) (x ∷ xs) ys
    by true same own later = let p = later xs (ap rest_of own) in record {
      before = e ∷ p.before;
      behind = p.behind;
      at = ap (λ (l : List OneEntry). e ∷ l) p.at;
      first = ap (λ b. cond b (here ∷ deeds_from core after actor p.before) (deeds_from core after actor p.before)) same
          ∙ (λ i. first_or here (own i) ∷ p.first i);
      later = p.later;
    }
    by false same own later = let p = later (x ∷ xs) own in record {
      before = e ∷ p.before;
      behind = p.behind;
      at = ap (λ (l : List OneEntry). e ∷ l) p.at;
      first = ap (λ b. cond b (here ∷ deeds_from core after actor p.before) (deeds_from core after actor p.before)) same ∙ p.first;
      later = p.later;
    }

are_one : (x y : ℕ) → nat_eq x y ≡ true → x ≡ y
are_one x y e = grind (arith, nat_tests)

abbrev reply_or : Reply → Option Reply → Reply
reply_or d None = d
reply_or d (Some x) = x

-- a command as an operation on a file
abbrev command_on : ℕ → ℕ → List ℕ → OpenFile → Asking
command_on cmd len bytes file = Calls (Commanding (command_in file.place file.fd file.of_chip cmd (buffer_of len bytes)))

-- What an operation makes of the files, carried out by an actor over these entries of a history.
module _ (driver : DriverKind) (actor : ℕ) (m : Maps) (w : World) (es : List OneEntry) (files : List OpenFile) (agree : HoldersAgree w) (claims : ClaimsFrom actor w.next w.requests) (answered : AnsweredFrom core w es)
    (under : AreBelow w.next files) (rising : Rises files)
  where
    abbrev last_number : ℕ
    last_number = (fold_from core w es).next

    no_fewer : w.next ≤ last_number
    no_fewer = next_after w es

    changed : (what : Do) (reply : Reply) (wrote : List ℕ) (number : ℕ) (list : List OpenFile) → w.next ≤ number → files_behind what reply files ≡ list
        → numbered_behind (numbered files) what (got_of what reply wrote) number ≡ numbered list → AreBelow last_number list → Rises list → Fresh files what reply wrote w.next last_number
    changed what reply wrote number list above is numbers below rises = record {
      number = number;
      above = above;
      is = ap (λ (l : List OpenFile). numbered l) is ∙ sym numbers;
      below = subst (λ l. AreBelow last_number l) (sym is) below;
      rises = subst (λ l. Rises l) (sym is) rises;
    }

    unchanged : (what : Do) (reply : Reply) (wrote : List ℕ) → files_behind what reply files ≡ files → numbered_behind (numbered files) what (got_of what reply wrote) w.next ≡ numbered files → Fresh files what reply wrote w.next last_number
    unchanged what reply wrote is numbers = changed what reply wrote w.next files (omega arith) is numbers (below_more w.next last_number files no_fewer under) rising

    one_added : (what : Do) (reply : Reply) (wrote : List ℕ) (file : OpenFile) → w.next ≤ file.fd → file.fd < last_number → files_behind what reply files ≡ files ++ file ∷ []
        → numbered_behind (numbered files) what (got_of what reply wrote) file.fd ≡ numbered files ++ record { slot = file.slot; number = file.fd } ∷ [] → Fresh files what reply wrote w.next last_number
    one_added what reply wrote file above below is numbers = changed what reply wrote file.fd (files ++ file ∷ []) above is (numbers ∙ sym (numbered_added files file))
        (each_added (λ (g : OpenFile). g.fd < last_number) files file below (below_more w.next last_number files no_fewer under)) (rises_added files file (below_more w.next file.fd files above under) rising)

    chip_opened : (slot : ℕ) (word : List ℕ) (reply : Reply) (wrote : List ℕ) → IsAnswer w.next last_number reply → Fresh files (DoOpenChip slot word) reply wrote w.next last_number
    chip_opened slot word reply wrote (inl n) = subst (λ r. Fresh files (DoOpenChip slot word) r wrote w.next last_number) (sym n.1)
        (one_added (DoOpenChip slot word) (Number n.0) wrote (chip_file slot (place_named word) n.0) n.2 n.3 refl refl)
    chip_opened slot word reply wrote (inr r) = subst (λ r. Fresh files (DoOpenChip slot word) r wrote w.next last_number) (sym r.1)
        (unchanged (DoOpenChip slot word) (Refused r.0) wrote refl refl)

    module _ (slot cmd len : ℕ) (bytes : List ℕ) (made : ℕ) (is_get_line : nat_eq cmd GET_LINE ≡ true) (reply : Reply) (wrote : List ℕ) where
      abbrev this : Do
      this = DoIoctl slot cmd len bytes made

      abbrev lines : Lines
      lines = lines_named (buffer_of len bytes)

      files_are : files_behind this reply files ≡ made_on made (file_in slot files) lines reply files
      files_are = ap (λ b. cond b (made_on made (file_in slot files) lines reply files) files) is_get_line

      numbers_are : (number : ℕ) → numbered_behind (numbered files) this (got_of this reply wrote) number ≡ with_number (refusal (got_of this reply wrote)) made number (numbered files)
      numbers_are number = ap (λ b. cond b (with_number (refusal (got_of this reply wrote)) made number (numbered files)) (numbered files)) is_get_line

      refused_kept : IsRefused reply → made_on made (file_in slot files) lines reply files ≡ files → Fresh files this reply wrote w.next last_number
      refused_kept r kept = unchanged this reply wrote (files_are ∙ kept) (numbers_are w.next ∙ ap (λ told. with_number (refusal (got_of this told wrote)) made w.next (numbered files)) r.1)

      request_made : (file : OpenFile) → file_in slot files ≡ Some file → (b : Bool) → file.of_chip ≡ b → IsMade b w.next last_number reply → Fresh files this reply wrote w.next last_number
      request_made file found true chip (inl n) = one_added this reply wrote (line_file made file.place n.0 lines) n.2 n.3
          (files_are ∙ ap (λ o. made_on made o lines reply files) found ∙ ap (λ b. made_of_kind b made file.place lines reply files) chip ∙ ap (λ told. with_request made file.place lines told files) n.1)
          (numbers_are n.0 ∙ ap (λ told. with_number (refusal (got_of this told wrote)) made n.0 (numbered files)) n.1)
      request_made file found true chip (inr r) = refused_kept r
          (ap (λ o. made_on made o lines reply files) found ∙ ap (λ b. made_of_kind b made file.place lines reply files) chip ∙ ap (λ told. with_request made file.place lines told files) r.1)
      request_made file found false chip r = refused_kept r
          (ap (λ o. made_on made o lines reply files) found ∙ ap (λ b. made_of_kind b made file.place lines reply files) chip)

    module _ (e : Exchange) (before after : Option Told) (own : entries_of actor es ≡ entries_in e.did) where
      opens : (slot : ℕ) (word : List ℕ) → IsDone driver actor m (once (OpenChip word)) None e before after → Fresh files (DoOpenChip slot word) e.reply e.wrote w.next last_number
      opens slot word is =
          let one = is.makes.1.0 in
          let said : one.0 ≡ e.reply = ap (λ o. reply_or e.reply o) (ap (λ (l : List OneEntry). last_reply l) (sym one.1) ∙ is.reply_is) in
          chip_opened slot word e.reply e.wrote (subst (λ r. IsAnswer w.next last_number r) said (open_answers actor w es word one.0 answered (own ∙ one.1)))

      commands : (slot cmd len : ℕ) (bytes : List ℕ) (made : ℕ) → IsDone driver actor m (asking files (DoIoctl slot cmd len bytes made)) (op_asked files (DoIoctl slot cmd len bytes made)) e before after
          → Fresh files (DoIoctl slot cmd len bytes made) e.reply e.wrote w.next last_number
      commands slot cmd len bytes made is = by (nat_eq cmd GET_LINE) refl
        where
          by_file : nat_eq cmd GET_LINE ≡ true → (o : Option OpenFile) → file_in slot files ≡ o → Fresh files (DoIoctl slot cmd len bytes made) e.reply e.wrote w.next last_number
          by_file same None none = let refused = subst (λ o. IsDone driver actor m (on_file o (command_on cmd len bytes)) (op_asked files (DoIoctl slot cmd len bytes made)) e before after) none is in
              refused_kept slot cmd len bytes made same e.reply e.wrote (BadF, refused.0.reply_is) (ap (λ o. made_on made o (lines_named (buffer_of len bytes)) e.reply files) none)
          by_file same (Some file) found = let called = subst (λ o. IsDone driver actor m (on_file o (command_on cmd len bytes)) (op_asked files (DoIoctl slot cmd len bytes made)) e before after) found is in
              request_made slot cmd len bytes made same e.reply e.wrote file found file.of_chip refl
              (get_line_answers actor w es (command_in file.place file.fd file.of_chip cmd (buffer_of len bytes)) e.reply (ap command_of (are_one cmd GET_LINE same)) agree claims answered
              (ap (λ (l : List OneEntry). last_reply l) own ∙ called.reply_is) e.closed e.answer e.own
              (subst (λ l. Makes actor e.closed (Commanding (command_in file.place file.fd file.of_chip cmd (buffer_of len bytes))) e.answer e.own l) (sym own) called.makes))

          by : (b : Bool) → nat_eq cmd GET_LINE ≡ b → Fresh files (DoIoctl slot cmd len bytes made) e.reply e.wrote w.next last_number
          by true same = by_file same (file_in slot files) refl
          by false other = unchanged (DoIoctl slot cmd len bytes made) e.reply e.wrote
              (ap (λ b. cond b (made_on made (file_in slot files) (lines_named (buffer_of len bytes)) e.reply files) files) other)
              (ap (λ b. cond b (with_number (refusal (got_of (DoIoctl slot cmd len bytes made) e.reply e.wrote)) made w.next (numbered files)) (numbered files)) other)

      made_fresh : (what : Do) → IsDone driver actor m (asking_with m files what) (op_asked files what) e before after → Fresh files what e.reply e.wrote w.next last_number
      made_fresh (DoProbe label lines) is = unchanged (DoProbe label lines) e.reply e.wrote refl refl
      made_fresh (DoUnplug place) is = unchanged (DoUnplug place) e.reply e.wrote refl refl
      made_fresh (DoMakeDir path) is = unchanged (DoMakeDir path) e.reply e.wrote refl refl
      made_fresh (DoRemoveDir path) is = unchanged (DoRemoveDir path) e.reply e.wrote refl refl
      made_fresh (DoWrite path value) is = unchanged (DoWrite path value) e.reply e.wrote refl refl
      made_fresh (DoRead path) is = unchanged (DoRead path) e.reply e.wrote refl refl
      made_fresh (DoLive device up) is = unchanged (DoLive device up) e.reply e.wrote refl refl
      made_fresh (DoTick mono real) is = unchanged (DoTick mono real) e.reply e.wrote refl refl
      made_fresh (DoPin place what) is = unchanged (DoPin place what) e.reply e.wrote refl refl
      made_fresh (DoIrq place offset what) is = unchanged (DoIrq place offset what) e.reply e.wrote refl refl
      made_fresh (DoPull place offset up) is = unchanged (DoPull place offset up) e.reply e.wrote refl refl
      made_fresh (DoLevel place offset pull) is = unchanged (DoLevel place offset pull) e.reply e.wrote refl refl
      made_fresh (DoOpenChip slot word) is = opens slot word is
      made_fresh (DoFind slot name) is = unchanged (DoFind slot name) e.reply e.wrote refl refl
      made_fresh (DoIoctl slot cmd len bytes made) is = commands slot cmd len bytes made is
      made_fresh (ReadFile slot len) is = unchanged (ReadFile slot len) e.reply e.wrote refl refl
      made_fresh (Poll slot) is = unchanged (Poll slot) e.reply e.wrote refl refl
      made_fresh (DoClose slot) is = changed (DoClose slot) e.reply e.wrote w.next (without_file slot files) (omega arith) refl (sym (numbered_left slot files))
          (each_left (λ (g : OpenFile). g.fd < last_number) slot files (below_more w.next last_number files no_fewer under)) (rises_left slot files rising)
      made_fresh (Plan nth) is = unchanged (Plan nth) e.reply e.wrote refl refl
      made_fresh (Accept bits) is = unchanged (Accept bits) e.reply e.wrote refl refl
      made_fresh (Aggregate label slots count) is = unchanged (Aggregate label slots count) e.reply e.wrote refl refl

-- an actor's entries stay those of whole calls
made_more : (calls : List (Called Kept)) (called : Called Kept) → made_by (calls ++ called ∷ []) ≡ made_by calls ++ called.made
made_more [] called = append-nil called.made
made_more (x ∷ calls) called = ap (λ (l : List OneEntry). x.made ++ l) (made_more calls called) ∙ sym (append_assoc x.made (made_by calls) called.made)

of_calls : (driver : DriverKind) (actor : ℕ) (m : Maps) (entries : List OneEntry) (a : Asking) (op : Option Op) (e : Exchange) (before after : Option Told) → AreOfCalls StandsFor actor entries → IsDone driver actor m a op e before after
    → AreOfCalls StandsFor actor (entries ++ entries_in e.did)
of_calls driver actor m entries (Calls call) op e before after so_far is =
    let called : Called Kept = record { closed = e.closed; call = call; answer = e.answer; own = e.own; made = entries_in e.did } in record {
      calls = so_far.calls ++ called ∷ [];
      each = each_added (λ c. IsCalled StandsFor actor c) so_far.calls called (record { makes = is.makes; quiet = is.may_own.quiet; no_claims = is.may_own.no_claims }) so_far.each;
      are = ap (λ (l : List OneEntry). l ++ entries_in e.did) so_far.are ∙ sym (made_more so_far.calls called);
    }
of_calls driver actor m entries (Plans nth) op e before after so_far is =
    subst (λ l. AreOfCalls StandsFor actor l) (sym (ap (λ (did : List OneDeed). entries ++ entries_in did) is.0.did ∙ append-nil entries)) so_far
of_calls driver actor m entries (Accepts bits) op e before after so_far is =
    subst (λ l. AreOfCalls StandsFor actor l) (sym (ap (λ (did : List OneDeed). entries ++ entries_in did) is.0.did ∙ append-nil entries)) so_far
of_calls driver actor m entries (Refuses errno) op e before after so_far is =
    subst (λ l. AreOfCalls StandsFor actor l) (sym (ap (λ (did : List OneDeed). entries ++ entries_in did) is.0.did ∙ append-nil entries)) so_far

-- who has no unfinished claim has none below any number
claims_none : (a low : ℕ) (rows : List Request) → filter (is_claim_of a) rows ≡ [] → ClaimsFrom a low rows
claims_none a low [] none = tt
claims_none a low (x ∷ rows) none = by (is_claim_of a x) refl none (λ rest. claims_none a low rows rest)
  where
    by : (b : Bool) → is_claim_of a x ≡ b → cond b (x ∷ filter (is_claim_of a) rows) (filter (is_claim_of a) rows) ≡ [] → (filter (is_claim_of a) rows ≡ [] → ClaimsFrom a low rows) → ClaimsFrom a low (x ∷ rows)
    by true same h later = let n : length (x ∷ filter (is_claim_of a) rows) ≡ 0 = ap (λ (l : List Request). length l) h in absurd (omega arith)
    by false same h later = ((λ is. absurd (true≢false (sym is ∙ same))), later h)

-- Turns one after another, over the entries of a legal history after what the actor has seen: how the actor stands after them, and what
-- is left of the program and of the entries.
module _ {A : Type 0} (driver : DriverKind) (actor : ℕ) (P : A → List Numbered → Type 0) (history : List OneEntry) (legal : Legal core history) where
  record Went (p q : Program A) (s r : Carried) (turns : List Turn) (low : ℕ) (more : List OneDeed) : Type 0 where
    pub seen : List OneEntry
    pub behind : List OneEntry
    pub whole : history ≡ seen ++ behind
    pub stands : Stands actor seen r.files
    pub later : deeds_from core (fold core seen) actor behind ≡ more
    pub no_fewer : low ≤ (fold core seen).next
    pub numbers : NumbersFiles P (numbered s.files) p → AreKept turns → NumbersFiles P (numbered r.files) q

  walk : (turns : List Turn) (p q : Program A) (s r : Carried) (seen es : List OneEntry) (more : List OneDeed) → history ≡ seen ++ es → Stands actor seen s.files
      → deeds_from core (fold core seen) actor es ≡ did_by turns ++ more → Follows driver actor p s turns q r → Went p q s r turns (fold core seen).next more
  walk [] p q s r seen es more whole stands deeds (is, same) = record {
    seen = seen;
    behind = es;
    whole = whole;
    stands = subst (λ (c : Carried). Stands actor seen c.files) same stands;
    later = deeds;
    no_fewer = omega arith;
    numbers = λ numbers kept. subst (λ (x : Program A × Carried). NumbersFiles P (numbered x.1.files) x.0) (λ i. (is i, same i)) numbers;
  }
  walk (Said text ∷ turns) p q s r seen es more whole stands deeds (next, then, (is, same), follows) =
      let on = walk turns next q then r seen es more whole (subst (λ (c : Carried). Stands actor seen c.files) (sym same) stands) deeds follows in record {
        seen = on.seen;
        behind = on.behind;
        whole = on.whole;
        stands = on.stands;
        later = on.later;
        no_fewer = on.no_fewer;
        numbers = λ numbers kept. on.numbers (subst (λ (c : Carried). NumbersFiles P (numbered c.files) next) (sym same) (subst (λ o. NumbersFiles P (numbered s.files) o) is numbers)) kept;
      }
  walk (Did e ∷ turns) p q s r seen es more whole stands deeds (next, then, (rest, is, goes, carries), follows) =
      let w : World = fold core seen in
      let part = parted actor w es e.did (did_by turns ++ more) (deeds ∙ append_assoc e.did (did_by turns) more) in
      let own : entries_of actor part.before ≡ entries_in e.did = sym (deeds_entries core w actor part.before) ∙ ap (λ (l : List OneDeed). entries_in l) part.first in
      let legal_here : Legal core (seen ++ es) = subst (λ l. Legal core l) whole legal in
      let legal_seen : Legal core seen = (answered_prefix core core.opening seen es legal_here.0, placed_prefix core core.opening seen es legal_here.1) in
      let answered : AnsweredFrom core w (part.before ++ part.behind) = subst (λ l. AnsweredFrom core w l) part.at (answered_rest core core.opening seen es legal_here.0) in
      let claims : ClaimsFrom actor w.next w.requests = claims_none actor w.next w.requests ((calls_finish_claims StandsFor).between_calls seen legal_seen actor stands.calls) in
      let fresh = made_fresh driver actor s.maps w part.before s.files (holders_always_agree StandsFor seen legal_seen) claims (answered_prefix core w part.before part.behind answered) stands.below stands.rises e s.told then.told own e.what carries.is_done in
      let got : Got = got_of e.what e.reply e.wrote in
      let below : Each (λ (file : Numbered). file.number < fresh.number) (numbered s.files) = numbered_below fresh.number s.files (below_more w.next fresh.number s.files fresh.above stands.below) in
      let world : fold core (seen ++ part.before) ≡ fold_from core w part.before = fold_append core core.opening seen part.before in
      let on = walk turns next q then r (seen ++ part.before) part.behind more
      (whole ∙ ap (λ (l : List OneEntry). seen ++ l) part.at ∙ sym (append_assoc seen part.before part.behind))
      (record {
        calls = subst (λ l. AreOfCalls StandsFor actor l) (sym (entries_append actor seen part.before ∙ ap (λ (l : List OneEntry). entries_of actor seen ++ l) own))
            (of_calls driver actor s.maps (entries_of actor seen) (asking_with s.maps s.files e.what) (op_asked s.files e.what) e s.told then.told stands.calls carries.is_done);
        below = subst (λ (x : World × List OpenFile). AreBelow x.0.next x.1) (λ i. (sym world i, sym carries.files i)) fresh.below;
        rises = subst (λ l. Rises l) (sym carries.files) fresh.rises;
      })
      (ap (λ (u : World). deeds_from core u actor part.behind) world ∙ part.later) follows in record {
        seen = on.seen;
        behind = on.behind;
        whole = on.whole;
        stands = on.stands;
        later = on.later;
        no_fewer = (let here = next_after w part.before in let same : (fold core (seen ++ part.before)).next ≡ (fold_from core w part.before).next = ap (λ (u : World). u.next) world in
            let later = on.no_fewer in omega (arith, here, same, later));
        numbers = λ numbers kept.
            let asked : NumbersFiles P (numbered s.files) (ask e.what rest) = subst (λ o. NumbersFiles P (numbered s.files) o) is numbers in
            let then_numbers : NumbersFiles P (numbered (files_behind e.what e.reply s.files)) (rest got) = subst (λ l. NumbersFiles P l (rest got)) (sym fresh.is) (asked got fresh.number kept.0 below) in
            on.numbers (subst (λ o. NumbersFiles P (numbered then.files) o) (sym goes) (subst (λ l. NumbersFiles P (numbered l) (rest got)) (sym carries.files) then_numbers)) kept.1;
      }

-- One program, and then another: the turns of both are those of the one, and then those of the other.

abbrev is_print : {A : Type 0} → Program A → Bool
is_print (print text p) = true
is_print _ = false

abbrev is_ask : {A : Type 0} → Program A → Bool
is_ask (ask what p) = true
is_ask _ = false

abbrev text_in : {A : Type 0} → Program A → List ℕ
text_in (done value) = []
text_in (print text p) = text
text_in (ask what p) = []

abbrev behind_print : {A : Type 0} → Program A → Program A
behind_print (done value) = done value
behind_print (print text p) = p
behind_print (ask what p) = ask what p

abbrev what_in : {A : Type 0} → Do → Program A → Do
what_in other (done value) = other
what_in other (print text p) = other
what_in other (ask what p) = what

abbrev behind_ask : {A : Type 0} → Got → Program A → Program A
behind_ask got (done value) = done value
behind_ask got (print text p) = p
behind_ask got (ask what p) = p got

module _ {A B : Type 0} (driver : DriverKind) (actor : ℕ) (f : A → Program B) (r : Carried) (last : B) where
  record InTwo (p : Program A) (s : Carried) (turns : List Turn) : Type 0 where
    pub begun : List Turn
    pub ending : List Turn
    pub turns_are : turns ≡ begun ++ ending
    pub value : A
    pub between : Carried
    pub follows : Follows driver actor p s begun (done value) between
    pub ends : Follows driver actor (f value) between ending (done last) r

  in_two : (turns : List Turn) (p : Program A) (s : Carried) → Follows driver actor (then_by p f) s turns (done last) r → InTwo p s turns
  in_two turns (done value) s h = record { begun = []; ending = turns; turns_are = refl; value = value; between = s; follows = (refl, refl); ends = h }
  in_two [] (print text p) s (is, same) = absurd (true≢false (ap (λ (o : Program B). is_print o) is))
  in_two [] (ask what p) s (is, same) = absurd (true≢false (ap (λ (o : Program B). is_ask o) is))
  in_two (Said said ∷ turns) (print text p) s (next, then, (is, same), h) =
      let k = in_two turns p then (subst (λ (o : Program B). Follows driver actor o then turns (done last) r) (sym (ap (λ (o : Program B). behind_print o) is)) h) in record {
        begun = Said said ∷ k.begun;
        ending = k.ending;
        turns_are = ap (λ (l : List Turn). Said said ∷ l) k.turns_are;
        value = k.value;
        between = k.between;
        follows = (p, then, (ap (λ t. print t p) (ap (λ (o : Program B). text_in o) is), same), k.follows);
        ends = k.ends;
      }
  in_two (Said said ∷ turns) (ask what p) s (next, then, (is, same), h) = absurd (true≢false (ap (λ (o : Program B). is_ask o) is))
  in_two (Did e ∷ turns) (print text p) s (next, then, (rest, is, goes, carries), h) = absurd (true≢false (ap (λ (o : Program B). is_print o) is))
  in_two (Did e ∷ turns) (ask what p) s (next, then, (rest, is, goes, carries), h) =
      let got : Got = got_of e.what e.reply e.wrote in
      let to : then_by (p got) f ≡ next = ap (λ (o : Program B). behind_ask got o) is ∙ sym goes in
      let k = in_two turns (p got) then (subst (λ (o : Program B). Follows driver actor o then turns (done last) r) (sym to) h) in record {
        begun = Did e ∷ k.begun;
        ending = k.ending;
        turns_are = ap (λ (l : List Turn). Did e ∷ l) k.turns_are;
        value = k.value;
        between = k.between;
        follows = (p got, then, (p, ap (λ d. ask d p) (ap (λ (o : Program B). what_in e.what o) is), refl, carries), k.follows);
        ends = k.ends;
      }

-- the end closes these files, one after another
end_closes : (driver : DriverKind) (actor : ℕ) (ending : List Turn) (files : List OpenFile) (s r : Carried) (last : Names) → s.files ≡ files → Follows driver actor (closes_all (slots_of files)) s ending (done last) r
    → (closed_in files ending ≡ numbers_of files) × (r.files ≡ [])
end_closes driver actor [] [] s r last open_are (is, same) = (refl, ap (λ (c : Carried). c.files) (sym same) ∙ open_are)
end_closes driver actor [] (f ∷ fs) s r last open_are (is, same) = absurd (true≢false (ap (λ (o : Program Names). is_ask o) is))
end_closes driver actor (Said said ∷ turns) [] s r last open_are (next, then, (is, same), h) = absurd (true≢false (ap (λ (o : Program Names). is_print o) (sym is)))
end_closes driver actor (Said said ∷ turns) (f ∷ fs) s r last open_are (next, then, (is, same), h) = absurd (true≢false (ap (λ (o : Program Names). is_ask o) is))
end_closes driver actor (Did e ∷ turns) [] s r last open_are (next, then, (rest, is, goes, carries), h) = absurd (true≢false (ap (λ (o : Program Names). is_ask o) (sym is)))
end_closes driver actor (Did e ∷ turns) (f ∷ fs) s r last open_are (next, then, (rest, is, goes, carries), h) =
    let got : Got = got_of e.what e.reply e.wrote in
    let what : e.what ≡ DoClose f.slot = sym (ap (λ (o : Program Names). what_in e.what o) is) in
    let to : closes_all (slots_of fs) ≡ next = ap (λ (o : Program Names). behind_ask got o) is ∙ sym goes in
    let left : then.files ≡ fs = carries.files ∙ (λ i. files_behind (what i) e.reply (open_are i)) ∙ first_gone f fs in
    let k = end_closes driver actor turns fs then r last left (subst (λ (o : Program Names). Follows driver actor o then turns (done last) r) (sym to) h) in (
      (λ i. closed_by (f ∷ fs) (what i) ++ closed_in (files_behind (what i) e.reply (f ∷ fs)) turns)
          ∙ (λ i. number_in (first_in f fs i) ++ closed_in (first_gone f fs i) turns) ∙ ap (λ (l : List ℕ). f.fd ∷ l) k.0,
      k.1,
    )

-- the last turns of a talk, by an actor that stands so after its earlier ones
module _ (driver : DriverKind) (actor : ℕ) (history : List OneEntry) (legal : Legal core history) where
  closes : (earlier turns : List Turn) (statements : Program Names) (s r : Carried) (last : Names) (seen es : List OneEntry) (more : List OneDeed) → history ≡ seen ++ es → Stands actor seen s.files
      → deeds_from core (fold core seen) actor es ≡ did_by turns ++ more → (AreKept earlier → NumbersFiles CloseByNumber (numbered s.files) statements)
      → Follows driver actor (then_by statements quits) s turns (done last) r → ClosesByNumber driver actor earlier statements s turns last r
  closes earlier turns statements s r last seen es more whole stands deeds numbers follows =
      let two = in_two driver actor quits r last turns statements s follows in
      let did : did_by turns ++ more ≡ did_by two.begun ++ (did_by two.ending ++ more) =
      ap (λ (l : List Turn). did_by l ++ more) two.turns_are ∙ ap (λ (l : List OneDeed). l ++ more) (did_append two.begun two.ending) ∙ append_assoc (did_by two.begun) (did_by two.ending) more in
      let went = walk driver actor CloseByNumber history legal two.begun statements (done two.value) s two.between seen es (did_by two.ending ++ more) whole stands (deeds ∙ did) two.follows in
      let end : AreKept earlier → AreKept two.begun → (closed_in two.between.files two.ending ≡ numbers_of two.between.files) × (r.files ≡ [])
      = λ before kept. end_closes driver actor two.ending two.between.files two.between r last refl
      (subst (λ slots. Follows driver actor (closes_all slots) two.between two.ending (done last) r) (in_table_order two.value two.between.files went.stands.rises (went.numbers (numbers before) kept)) two.ends) in record {
        begun = two.begun;
        ending = two.ending;
        turns_are = two.turns_are;
        names = two.value;
        between = two.between;
        follows = two.follows;
        ends = two.ends;
        in_order = λ before kept. (end before kept).0 ∙ sym (ordered_numbers two.between.files went.stands.rises);
        leaves_none = λ before kept. (end before kept).1;
      }

nothing_yet : (actor : ℕ) → Stands actor [] []
nothing_yet actor = record { calls = record { calls = []; each = tt; are = refl }; below = tt; rises = tt }

-- the statements of `setup`, and then those of `after`
module _ (sections : List SaidSection) where
  abbrev in_setup : List (List Span)
  in_setup = said_in_kind Setup sections

  abbrev behind_setup : Names → Program Names
  behind_setup names = says (length in_setup) (said_in_kind After sections) done (left_setup names)

  abbrev both : Program Names
  both = then_by (says 0 in_setup done setup_names) behind_setup

  number_both : NumbersFiles CloseByNumber [] both
  number_both = subst (λ (p : Program Names). NumbersFiles CloseByNumber [] p) (says_then 0 in_setup behind_setup setup_names)
      (setup_closes_by_number in_setup (said_in_kind After sections))

  to_the_end : (names : Names) → after_of sections names ≡ then_by (behind_setup names) quits
  to_the_end names = says_then (length in_setup) (said_in_kind After sections) quits (left_setup names)

no_deeds : (did : List OneDeed) → entries_in did ≡ [] → did ≡ []
no_deeds [] none = refl
no_deeds (d ∷ did) none = let n : length (d.entry ∷ entries_in did) ≡ 0 = ap (λ (l : List OneEntry). length l) none in absurd (omega arith)

section_closes_by_number : (driver : DriverOver) (before left : ℕ → Option Told) (sections : List SaidSection) (history : List OneEntry) → Legal core history → (m : Maps) (n : ℕ) (text : List ℕ) (actor : ActorPlayed driver before left sections history m n text)
    → ClosesByNumber driver.kind n [] (section_statements sections n) (carried [] (before n) m) actor.played.turns actor.names actor.behind
section_closes_by_number driver before left sections history legal m n text actor =
    let words : List (List Span) = words_of (get_or (actor_sections sections) (n - 1) no_section) in
    closes driver.kind n history legal [] actor.played.turns (says 0 words done no_names) (carried [] (before n) m) actor.behind actor.names [] history [] refl (nothing_yet n)
    (actor.played.did_is ∙ sym (append-nil (did_by actor.played.turns))) (λ none. files_close_by_number words)
    (subst (λ (q : Program Names). Follows driver.kind n q (carried [] (before n) m) actor.played.turns (done actor.names) actor.behind) (are_statements_and_the_end 0 words no_names) actor.played.follows)

after_closes_by_number : (driver : DriverOver) (before left : ℕ → Option Told) (sections : List SaidSection) (history : List OneEntry) (texts : Texts) (all : AllPlayed driver before left sections history texts)
    → ClosesByNumber driver.kind 0 all.setup.turns (after_statements sections all.names) all.waiting all.after.turns all.end all.behind
after_closes_by_number driver before left sections history texts all =
    let front : List OneEntry = all.first ++ all.middle in
    let between : deeds_from core (fold core all.first) 0 all.middle ≡ [] = no_deeds (deeds_from core (fold core all.first) 0 all.middle) (deeds_entries core (fold core all.first) 0 all.middle ∙ all.zero_not_between) in
    let setup_did : deeds_of core 0 front ≡ did_by all.setup.turns = deeds_append core core.opening 0 all.first all.middle ∙ (λ i. deeds_of core 0 all.first ++ between i) ∙ append-nil (deeds_of core 0 all.first) ∙ all.setup.did_is in
    let deeds : deeds_of core 0 history ≡ did_by all.setup.turns ++ did_by all.after.turns =
    ap (λ (l : List OneEntry). deeds_of core 0 l) all.is ∙ deeds_append core core.opening 0 front all.last ∙ (λ i. setup_did i ++ all.after.did_is i) in
    let went = walk driver.kind 0 CloseByNumber history all.legal all.setup.turns (both sections) (behind_setup sections all.names) (carried [] (before 0) (start_maps driver)) all.waiting [] history (did_by all.after.turns) refl (nothing_yet 0) deeds
    (follows_then driver.kind 0 (behind_setup sections) (setup_of sections) (carried [] (before 0) (start_maps driver)) all.setup.turns (done all.names) all.waiting all.setup.follows) in
    closes driver.kind 0 history all.legal all.setup.turns all.after.turns (behind_setup sections all.names) all.waiting all.behind all.end went.seen went.behind [] went.whole went.stands
    (went.later ∙ sym (append-nil (did_by all.after.turns))) (went.numbers (number_both sections))
    (subst (λ (q : Program Names). Follows driver.kind 0 q all.waiting all.after.turns (done all.end) all.behind) (to_the_end sections all.names) all.after.follows)

pub actors_close_by_number : (driver : DriverOver) → ActorsCloseByNumber driver
actors_close_by_number driver = record {
  sections = section_closes_by_number driver;
  after = after_closes_by_number driver;
}

-- one actor alone
module _ (driver : DriverOver) (sections : List SaidSection) (before left : Option Told) (text : List ℕ) (did : List OneDeed) (history : List OneEntry) (played : PlayedSession driver sections before text did left) (alone : IsAlone history did) where
  abbrev setup_turns : List Turn
  setup_turns = played.setup.played.turns

  abbrev actor_turns : List Turn
  actor_turns = played.actor.played.turns

  abbrev last_turns : List Turn
  last_turns = played.last.played.turns

  deeds : deeds_of core 0 history ≡ did_by setup_turns ++ (did_by actor_turns ++ did_by last_turns)
  deeds = alone.deeds ∙ played.did_is ∙ (λ i. played.setup.played.did_is i ++ (played.actor.played.did_is i ++ played.last.played.did_is i))

  behind_setup_stands : Went driver.kind 0 CloseByNumber history alone.legal (both sections) (behind_setup sections played.setup.names) (carried [] before (start_maps driver)) played.setup.behind setup_turns (fold core []).next (did_by actor_turns ++ did_by last_turns)
  behind_setup_stands = walk driver.kind 0 CloseByNumber history alone.legal setup_turns (both sections) (behind_setup sections played.setup.names) (carried [] before (start_maps driver)) played.setup.behind [] history (did_by actor_turns ++ did_by last_turns) refl (nothing_yet 0) deeds
      (follows_then driver.kind 0 (behind_setup sections) (setup_of sections) (carried [] before (start_maps driver)) setup_turns (done played.setup.names) played.setup.behind played.setup.played.follows)

  abbrev went : Went driver.kind 0 CloseByNumber history alone.legal (both sections) (behind_setup sections played.setup.names) (carried [] before (start_maps driver)) played.setup.behind setup_turns (fold core []).next (did_by actor_turns ++ did_by last_turns)
  went = behind_setup_stands

  -- the section begins with no file of its own
  none_open : Stands 0 went.seen []
  none_open = record { calls = went.stands.calls; below = tt; rises = tt }

  section_closes : ClosesByNumber driver.kind 0 [] (says 0 (said_in_kind Actor sections) done no_names) (carried [] played.setup.behind.told played.setup.behind.maps) actor_turns played.actor.names played.actor.behind
  section_closes = closes driver.kind 0 history alone.legal [] actor_turns (says 0 (said_in_kind Actor sections) done no_names) (carried [] played.setup.behind.told played.setup.behind.maps) played.actor.behind played.actor.names
      went.seen went.behind (did_by last_turns) went.whole none_open went.later (λ none. files_close_by_number (said_in_kind Actor sections))
      (subst (λ (q : Program Names). Follows driver.kind 0 q (carried [] played.setup.behind.told played.setup.behind.maps) actor_turns (done played.actor.names) played.actor.behind) (are_statements_and_the_end 0 (said_in_kind Actor sections) no_names) played.actor.played.follows)

  after_closes : ClosesByNumber driver.kind 0 setup_turns (behind_setup sections played.setup.names) (carried played.setup.behind.files played.actor.behind.told played.actor.behind.maps) last_turns played.last.names played.last.behind
  after_closes =
      let on = walk driver.kind 0 CloseByNumber history alone.legal actor_turns (actor_of sections) (done played.actor.names) (carried [] played.setup.behind.told played.setup.behind.maps) played.actor.behind went.seen went.behind (did_by last_turns) went.whole none_open went.later played.actor.played.follows in
      closes driver.kind 0 history alone.legal setup_turns last_turns (behind_setup sections played.setup.names) (carried played.setup.behind.files played.actor.behind.told played.actor.behind.maps) played.last.behind played.last.names on.seen on.behind [] on.whole
      (record { calls = on.stands.calls; below = below_more (fold core went.seen).next (fold core on.seen).next played.setup.behind.files on.no_fewer went.stands.below; rises = went.stands.rises })
      (on.later ∙ sym (append-nil (did_by last_turns))) (went.numbers (number_both sections))
      (subst (λ (q : Program Names). Follows driver.kind 0 q (carried played.setup.behind.files played.actor.behind.told played.actor.behind.maps) last_turns (done played.last.names) played.last.behind) (to_the_end sections played.setup.names) played.last.played.follows)

pub one_actor_closes_by_number : (driver : DriverOver) → OneActorClosesByNumber driver
one_actor_closes_by_number driver = record { section = section_closes driver; after = after_closes driver }
