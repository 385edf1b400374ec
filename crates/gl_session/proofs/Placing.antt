-- A new chip stands at another place than each file that an actor has open, and than each chip that its port has a map of: a chip was made at their
-- places before.
use Rattle.std.proofs.Common.{◌≡◌, ◌≢◌, ◌⊎◌, inl, inr, ℕ, ◌+◌, ◌<◌, ◌≤◌, Bool, true, false, List, [], ◌∷◌, ◌++◌, length, length-append, Option, None, Some, refl, sym, ap, ◌∙◌, subst, arith}
use Rattle.std.specs.Prelude.{if◌then◌else◌, cond, find, nat_eq, nat_le, slice_index_or}
use Rattle.std.proofs.lemmas.Bool.Decides.{nat_tests}
use Rattle.std.proofs.lemmas.List.{append-nil}
use Rattle.gl_base.specs.ChipWord.{chip_number_of}
use Rattle.gl_base.specs.Refusals.{when}
use Rattle.gl_base.specs.Rows.{Each}
use Rattle.gl_base.specs.declared.command.TheConstants.{GET_LINE}
use Rattle.gl_base.specs.declared.errno.Errno.{Errno}
use Rattle.gl_base.specs.declared.errno.Errno.TheVariants.{NoSpc}
use Rattle.gl_base.specs.declared.kind.Kind.{Kind}
use Rattle.gl_base.specs.declared.limits.TheConstants.{PLACES}
use Rattle.gl_base.specs.declared.lines.Lines.{Lines}
use Rattle.gl_base.specs.declared.operation.Do.{Do}
use Rattle.gl_base.specs.declared.operation.Do.TheVariants.{OpenChip as DoOpenChip, Ioctl as DoIoctl, Close as DoClose}
use Rattle.gl_base.specs.declared.phase.Phase.{Phase}
use Rattle.gl_base.specs.declared.phase.Phase.TheVariants.{Absent, Up, Leaving, Gone}
use Rattle.gl_registry.specs.Chips.{can_be_named, chip_at, named_place, new_chip, no_chip}
use Rattle.gl_registry.specs.declared.registry.Chip.{Chip}
use Rattle.gl_world.specs.Deeds.{deeds_of, entries_in}
use Rattle.gl_world.specs.History.{AnsweredFrom, Legal, StartsWith, entry, fold, fold_from, stage}
use Rattle.gl_world.specs.Laws.{Laws}
use Rattle.gl_world.specs.Ranks.{rank}
use Rattle.gl_world.proofs.Histories.{answered_prefix, answered_rest, fold_append, placed_prefix}
use Rattle.gl_world.proofs.Phases.{fold_sound}
use Rattle.gl_gate.specs.Grown.{Grew}
use Rattle.gl_gate.proofs.Grown.{begins_further}
use Rattle.gl_driver.specs.declared.map.Map.{Map}
use Rattle.gl_model.specs.Chips.{new_origin, new_place as new_tables, phase_at, with_chips}
use Rattle.gl_model.specs.Opening.{open_at}
use Rattle.gl_model.specs.Outcome.{numbers, refused_or}
use Rattle.gl_model.specs.Parts.{last_reply}
use Rattle.gl_model.specs.World.{World}
use Rattle.gl_model.specs.declared.call.Call.{Call}
use Rattle.gl_model.specs.declared.call.Call.TheVariants.{OpenChip, Probe}
use Rattle.gl_model.specs.Replies.{has_form}
use Rattle.gl_model.specs.declared.device_call.DeviceCall.{DeviceCall}
use Rattle.gl_model.specs.declared.device_call.DeviceCall.TheVariants.{Once}
use Rattle.gl_model.specs.declared.reply.Reply.{Reply}
use Rattle.gl_model.specs.declared.reply.Reply.TheVariants.{Done, Number, Go, Found, Text, Ready, Refused}
use Rattle.gl_model.proofs.Columns.{read_past}
use Rattle.gl_model.proofs.MachineLaws.{machine_laws}
use Rattle.gl_core.specs.Device.{OneDeed, OneEntry, core}
use Rattle.gl_core.specs.Kept.{StandsFor}
use Rattle.gl_chip.specs.Called.{HasCalled, last_entry}
use Rattle.gl_chip.specs.Orders.{AnswersOrder}
use Rattle.gl_chip.specs.Values.{OneView}
use Rattle.gl_chip.proofs.OpenedChips.{opened_in}
use Rattle.gl_asking.specs.declared.kinds.Asking.{Asking}
use Rattle.gl_asking.specs.declared.kinds.Asking.TheVariants.{Calls, Plans, Accepts, Refuses}
use Rattle.gl_asking.specs.declared.kinds.FileKind.{FileKind}
use Rattle.gl_asking.specs.Asking.{buffer_of, files_behind, lines_named, made_by, made_on, opened, with_request}
use Rattle.gl_asking.specs.Files.{OpenFile, chip_file, file_in, is_in, line_file, without_file}
use Rattle.gl_asking.specs.Opened.{opened_of, place_named, place_or_first}
use Rattle.gl_check.specs.Joining.{Maps, asking_with}
use Rattle.gl_session.specs.Placed.{AreFilesPlaced, AreMapsPlaced, IsPlaced}
use Rattle.gl_session.proofs.Mapped.{each_more}
use Rattle.gl_session.proofs.OneHistories.{length_entries}

laws : Laws core
laws = machine_laws StandsFor

-- What was placed stays so, whatever is seen later.
pub placed_later : (seen later : List OneEntry) (place : ℕ) → StartsWith later seen → IsPlaced seen place → IsPlaced later place
placed_later seen later place begins h = record { by_then = h.by_then; begins = begins_further later seen h.by_then begins h.begins; legal = h.legal; there = h.there }

pub files_later : (seen later : List OneEntry) (files : List OpenFile) → StartsWith later seen → AreFilesPlaced seen files → AreFilesPlaced later files
files_later seen later [] begins h = tt
files_later seen later (file ∷ files) begins h = (placed_later seen later file.place begins h.0, files_later seen later files begins h.1)

pub maps_later : (seen later : List OneEntry) (maps : List Map) → StartsWith later seen → AreMapsPlaced seen maps → AreMapsPlaced later maps
maps_later seen later [] begins h = tt
maps_later seen later (map ∷ maps) begins h = (placed_later seen later map.place begins h.0, maps_later seen later maps begins h.1)

-- as much was seen
pub begins_same : (seen later : List OneEntry) → later ≡ seen → StartsWith later seen
begins_same seen later is = ([], is ∙ sym (append-nil seen))

stage_grows : (w : World) (es : List OneEntry) (p : ℕ) → core.Sound w → AnsweredFrom core w es → stage core w p ≤ stage core (fold_from core w es) p
stage_grows w [] p sound answered = omega arith
stage_grows w (e ∷ es) p sound answered =
    let here = laws.goes_forward w e.actor e.call p sound answered.1 in
    let later = stage_grows (core.world_after w e.actor e.call) es p (laws.keeps_sound w e.actor e.call sound answered.1) answered.2 in omega arith

there_by : (before by_then : List OneEntry) (p : ℕ) → Legal core before → StartsWith before by_then → 1 ≤ stage core (fold core by_then) p → 1 ≤ stage core (fold core before) p
there_by before by_then p legal begins there =
    let whole : AnsweredFrom core core.opening (by_then ++ begins.0) = subst (λ l. AnsweredFrom core core.opening l) begins.1 legal.0 in
    let sound = fold_sound core laws core.opening by_then laws.opens_sound (answered_prefix core core.opening by_then begins.0 whole) in
    let grows = stage_grows (fold core by_then) begins.0 p sound (answered_rest core core.opening by_then begins.0 whole) in
    subst (λ (w : World). 1 ≤ stage core w p) (sym (ap (λ (l : List OneEntry). fold core l) begins.1 ∙ fold_append core core.opening by_then begins.0)) (omega (arith, grows, there))

abbrev first_or : OneEntry → List OneEntry → OneEntry
first_or d [] = d
first_or d (e ∷ es) = e

abbrev rest_of : List OneEntry → List OneEntry
rest_of [] = []
rest_of (e ∷ es) = es

-- what is shorter than a whole history is in front of its last entry
before_last : (before : List OneEntry) (last : OneEntry) (seen : List OneEntry) → StartsWith (before ++ last ∷ []) seen → length seen ≤ length before → StartsWith before seen
before_last before last [] begins less = (before, refl)
before_last [] last (x ∷ seen) begins less = absurd (omega arith)
before_last (y ∷ before) last (x ∷ seen) (rest, is) less =
    let inner = before_last before last seen (rest, ap rest_of is) (omega arith) in (inner.0, λ i. first_or y (is i) ∷ inner.1 i)

-- who did something has seen more
saw_more : (v w : OneView) (did : List OneDeed) → Grew core v did w → 1 ≤ length did → length v.seen < length w.seen
saw_more v w did grew some = by grew.seen.0 grew.seen.1
  where
    by : (rest : List OneEntry) → w.seen ≡ v.seen ++ rest → length v.seen < length w.seen
    by [] is =
        let same : deeds_of core v.number v.seen ≡ deeds_of core v.number v.seen ++ did = ap (λ (l : List OneEntry). deeds_of core v.number l) (sym (is ∙ append-nil v.seen)) ∙ grew.deeds in
        let long : length (deeds_of core v.number v.seen) ≡ length (deeds_of core v.number v.seen ++ did) = ap (λ (l : List OneDeed). length l) same in
        let both = length-append (deeds_of core v.number v.seen) did in absurd (omega arith)
    by (e ∷ rest) is = let long : length w.seen ≡ length (v.seen ++ e ∷ rest) = ap (λ (l : List OneEntry). length l) is in let both = length-append v.seen (e ∷ rest) in omega arith

-- Opening

named_rank : (p : Phase) → can_be_named p ≡ true → 1 ≤ rank p
named_rank Absent named = cc
named_rank Up named = omega arith
named_rank Leaving named = omega arith
named_rank Gone named = cc

abbrev is_a_number : Reply → Bool
is_a_number (Number n) = true
is_a_number _ = false

by_name : (b : Bool) (n fd : ℕ) (w : World) → (open_at (if b then Some n else None) w).reply ≡ Number fd → b ≡ true
by_name true n fd w h = refl
by_name false n fd w h = ap is_a_number h

named_there : (named : Option ℕ) (w : World) (fd : ℕ) → (open_at (named_place w.chips named) w).reply ≡ Number fd → 1 ≤ rank (phase_at w (place_or_first named))
named_there None w fd h = let no : false ≡ true = ap is_a_number h in cc
named_there (Some n) w fd h = named_rank (chip_at w.chips n).phase (by_name (can_be_named (chip_at w.chips n).phase) n fd w h)

-- the chip of a file that was opened was made before
pub opened_placed : (limit : ℕ) (v w : OneView) (word : List ℕ) (fd : ℕ) (bytes : List ℕ) → HasCalled limit v (Once (OpenChip word)) (Number fd) bytes w → IsPlaced w.seen (place_named word)
opened_placed limit v w word fd bytes called = let o = opened_in limit v w word (Number fd) bytes called in record {
  by_then = o.before;
  begins = (entry v.number (OpenChip word) (Number fd) ∷ [], o.at);
  legal = o.legal;
  there = named_there (chip_number_of word) (fold core o.before) fd (sym o.answered);
}

-- Probing

abbrev number_or : ℕ → Reply → ℕ
number_or d (Number n) = n
number_or d _ = d

probed_so : (b : Bool) (w after : World) (n place : ℕ) → (refused_or (when b NoSpc) w (numbers n after)).reply ≡ Number place → (b ≡ false) × (n ≡ place)
probed_so true w after n place h = let no : false ≡ true = ap is_a_number h in cc
probed_so false w after n place h = (refl, ap (λ reply. number_or n reply) h)

last_chip : (chips : List Chip) (c : Chip) → slice_index_or (chips ++ c ∷ []) (length chips) no_chip ≡ c
last_chip [] c = refl
last_chip (x ∷ chips) c = last_chip chips c

abbrev entry_or : OneEntry → Option OneEntry → OneEntry
entry_or d (Some e) = e
entry_or d None = d

abbrev reply_or : Reply → Option Reply → Reply
reply_or d (Some r) = r
reply_or d None = d

-- A new chip: its place is one of those that a device has, no chip was made there before, and one was made now.
pub record IsNewPlace (v w : OneView) (place : ℕ) : Type 0 where
  pub within : place < PLACES
  pub unplaced : (other : ℕ) → IsPlaced v.seen other → other ≢ place
  pub placed : IsPlaced w.seen place

pub probed_new : (limit : ℕ) (v w : OneView) (label : List ℕ) (lines : ℕ) (kind : Kind) (place : ℕ) (bytes : List ℕ) → HasCalled limit v (Once (Probe label lines kind)) (Number place) bytes w → IsNewPlace v w place
probed_new limit v w label lines kind place bytes c =
    let call : Call = Probe label lines kind in
    let made : List OneEntry = entries_in c.did in
    let told : Reply = c.makes.1.0.0 in
    let e : OneEntry = entry v.number call told in
    let one : made ≡ e ∷ [] = c.makes.1.0.1 in
    let same : told ≡ Number place = ap (reply_or (Number place)) (sym (ap (λ (es : List OneEntry). last_reply es) one) ∙ c.reply_is) in
    let last : e ≡ c.last.last = ap (entry_or e) (sym (ap (λ (es : List OneEntry). last_entry es) one) ∙ c.last.is_last) in
    let before : List OneEntry = c.last.at.0 in
    let at : w.seen ≡ before ++ entry v.number call (Number place) ∷ [] = c.last.at.1 ∙ ap (λ (x : OneEntry). before ++ x ∷ []) (sym last ∙ ap (λ (r : Reply). entry v.number call r) same) in
    let whole : Legal core (before ++ entry v.number call (Number place) ∷ []) = subst (λ s. Legal core s) at c.legal in
    let answered = answered_rest core core.opening before (entry v.number call (Number place) ∷ []) whole.0 in
    let legal : Legal core before = (answered_prefix core core.opening before _ whole.0, placed_prefix core core.opening before _ whole.1) in
    let world : World = fold core before in
    let after : World = with_chips (new_chip label lines ∷ []) (new_origin kind None ∷ []) (new_tables lines ∷ []) world in
    let so = probed_so (nat_le PLACES (length world.chips)) world after (length world.chips) place (sym answered.0) in
    let less : length world.chips < PLACES = (let test = so.0 in grind (arith, nat_tests, test)) in
    let none : stage core world place ≡ 0 = ap (λ (n : ℕ). rank (phase_at world n)) (sym so.1) ∙ ap (λ (chip : Chip). rank chip.phase) (read_past world.chips (length world.chips) no_chip (omega arith)) in
    let did_one : length c.did ≡ 1 = sym (length_entries c.did) ∙ ap (λ (l : List OneEntry). length l) one in
    let longer = saw_more v w c.did c.grew (omega (arith, did_one)) in
    let long : length w.seen ≡ length before + 1 = ap (λ (l : List OneEntry). length l) at ∙ length-append before (entry v.number call (Number place) ∷ []) in
    let front : StartsWith before v.seen = before_last before (entry v.number call (Number place)) v.seen (subst (λ l. StartsWith l v.seen) at c.grew.seen) (omega (arith, longer, long)) in
    let becomes : fold core w.seen ≡ (refused_or (when (nat_le PLACES (length world.chips)) NoSpc) world (numbers (length world.chips) after)).world =
    ap (λ (l : List OneEntry). fold core l) at ∙ fold_append core core.opening before (entry v.number call (Number place) ∷ []) in
    let new_world : fold core w.seen ≡ after = becomes ∙ ap (λ (b : Bool). (refused_or (when b NoSpc) world (numbers (length world.chips) after)).world) so.0 in record {
      within = subst (λ n. n < PLACES) so.1 less;
      unplaced = λ other p is.
          let there = there_by before p.by_then other legal (begins_further before v.seen p.by_then front p.begins) p.there in
          let here : stage core world other ≡ 0 = ap (λ (n : ℕ). stage core world n) is ∙ none in absurd (omega (arith, there, here));
      placed = record {
        by_then = w.seen;
        begins = ([], sym (append-nil w.seen));
        legal = c.legal;
        there = subst (λ (phase : Phase). 1 ≤ rank phase) (sym (ap (λ (x : World). phase_at x place) new_world ∙ ap (λ (n : ℕ). phase_at after n) (sym so.1) ∙ ap (λ (chip : Chip). chip.phase) (last_chip world.chips (new_chip label lines)))) (omega arith);
      };
    }

-- Files behind an operation: those before it, or with one more that was opened just now, or that is on the chip of one of them.

pub each_left : (P : OpenFile → Type 0) (slot : ℕ) (files : List OpenFile) → Each P files → Each P (without_file slot files)
each_left P slot [] h = tt
each_left P slot (x ∷ files) h = by (is_in slot x) (each_left P slot files h.1)
  where
    by : (b : Bool) → Each P (without_file slot files) → Each P (cond b files (x ∷ without_file slot files))
    by true later = h.1
    by false later = (h.0, later)

pub found_each : (P : OpenFile → Type 0) (test : OpenFile → Bool) (files : List OpenFile) (file : OpenFile) → Each P files → find test files ≡ Some file → P file
found_each P test [] file h is = cc
found_each P test (x ∷ files) file h is = by (test x) is (λ later. found_each P test files file h.1 later)
  where
    by : (b : Bool) → cond b (Some x) (find test files) ≡ Some file → (find test files ≡ Some file → P file) → P file
    by true found later = subst P (some_same found) h.0
      where
        some_same : {x y : OpenFile} → Some x ≡ Some y → x ≡ y
        some_same e = cc
    by false found later = later found

module _ (seen : List OneEntry) where
  abbrev Here : OpenFile → Type 0
  Here file = IsPlaced seen file.place

  -- how an opening was answered
  abbrev pub Opens : List ℕ → Reply → Type 0
  Opens word reply = ((fd : ℕ) × (reply ≡ Number fd) × IsPlaced seen (place_named word)) ⊎ ((errno : Errno) × (reply ≡ Refused errno))

  chip_more : (slot : ℕ) (word : List ℕ) (reply : Reply) (files : List OpenFile) → Opens word reply → Each Here files → Each Here (opened slot (opened_of word reply) files)
  chip_more slot word reply files (inl (fd, is, there)) h =
      subst (λ (r : Reply). Each Here (opened slot (opened_of word r) files)) (sym is) (each_more Here files (chip_file slot (place_named word) fd) h there)
  chip_more slot word reply files (inr (errno, is)) h = subst (λ (r : Reply). Each Here (opened slot (opened_of word r) files)) (sym is) h

  line_more : (slot place : ℕ) (lines : Lines) (reply : Reply) (files : List OpenFile) → IsPlaced seen place → Each Here files → Each Here (with_request slot place lines reply files)
  line_more slot place lines (Number fd) files there h = each_more Here files (line_file slot place fd lines) h there
  line_more slot place lines reply files there h = h

  made_more : (slot : ℕ) (o : Option OpenFile) (lines : Lines) (reply : Reply) (files : List OpenFile) → ((file : OpenFile) → o ≡ Some file → Here file) → Each Here files → Each Here (made_on slot o lines reply files)
  made_more slot None lines reply files found h = h
  made_more slot (Some file) lines reply files found h = by file.of_chip
    where
      by : (b : Bool) → Each Here (made_by b slot file.place lines reply files)
      by true = line_more slot file.place lines reply files (found file refl) h
      by false = h

  pub files_placed : (what : Do) (reply : Reply) (files : List OpenFile) → ((slot : ℕ) (word : List ℕ) → what ≡ DoOpenChip slot word → Opens word reply) → AreFilesPlaced seen files
      → AreFilesPlaced seen (files_behind what reply files)
  files_placed (DoOpenChip slot word) reply files opens h = chip_more slot word reply files (opens slot word refl) h
  files_placed (DoIoctl slot cmd len bytes made) reply files opens h = by (nat_eq cmd GET_LINE)
    where
      by : (b : Bool) → Each Here (if b then made_on made (file_in slot files) (lines_named (buffer_of len bytes)) reply files else files)
      by true = made_more made (file_in slot files) (lines_named (buffer_of len bytes)) reply files (λ file found. found_each Here (is_in slot) files file h found) h
      by false = h
  files_placed (DoClose slot) reply files opens h = each_left Here slot files h
  files_placed what reply files opens h = h

-- An opening was made, and answered so.
opens_by : (limit : ℕ) (v w : OneView) (word : List ℕ) (reply : Reply) (bytes : List ℕ) → HasCalled limit v (Once (OpenChip word)) reply bytes w → has_form (OpenChip word) reply ≡ true → Opens w.seen word reply
opens_by limit v w word (Number fd) bytes called form = inl (fd, refl, opened_placed limit v w word fd bytes called)
opens_by limit v w word (Refused errno) bytes called form = inr (errno, refl)
opens_by limit v w word Done bytes called form = cc
opens_by limit v w word (Go n) bytes called form = cc
opens_by limit v w word (Found p o n) bytes called form = cc
opens_by limit v w word (Text t) bytes called form = cc
opens_by limit v w word (Ready b) bytes called form = cc

abbrev pub call_or : DeviceCall → Asking → DeviceCall
call_or d (Calls call) = call
call_or d (Plans nth) = d
call_or d (Accepts bits) = d
call_or d (Refuses errno) = d

-- so files are placed behind an operation that is a call
pub call_placed : (limit : ℕ) (v w : OneView) (m : Maps) (files : List OpenFile) (what : Do) (call : DeviceCall) (on : FileKind) (reply : Reply) (bytes : List ℕ) → Calls call ≡ asking_with m files what → HasCalled limit v call reply bytes w → AnswersOrder call on reply
    → AreFilesPlaced w.seen files → AreFilesPlaced w.seen (files_behind what reply files)
call_placed limit v w m files what call on reply bytes asks called form placed = files_placed w.seen what reply files opens placed
  where
    opens : (slot : ℕ) (word : List ℕ) → what ≡ DoOpenChip slot word → Opens w.seen word reply
    opens slot word is =
        let same : call ≡ Once (OpenChip word) = ap (λ (a : Asking). call_or call a) (asks ∙ ap (λ (d : Do). asking_with m files d) is) in
        opens_by limit v w word reply bytes (subst (λ (c : DeviceCall). HasCalled limit v c reply bytes w) same called) (subst (λ (c : DeviceCall). AnswersOrder c on reply) same form)
