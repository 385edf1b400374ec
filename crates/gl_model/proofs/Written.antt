-- The reply of a call tells how many bytes it has written.
use Rattle.std.proofs.Common.{◌≡◌, ◌<◌, ◌≤◌, ℕ, ◌+◌, ◌-◌, ◌*◌, ◌/◌, Bool, true, false, not, ◌==◌, refl, sym, ap, ◌∙◌, subst, min, List, [], ◌∷◌, ◌++◌, length, take, drop, replicate, Option, Some, None, Result, Ok, Err, arith}
use Rattle.std.specs.Prelude.{IsTrue, nat_le, codes, flat_map, if◌then◌else◌}
use Rattle.std.proofs.lemmas.Fmt.{length-decimal-le}
use Rattle.std.proofs.lemmas.List.{length-append, length-drop, length-replicate, length-take, length-take-le}
use Rattle.gl_base.proofs.FirstRows.{Each-find, Each-take}
use Rattle.gl_base.specs.ChipWord.{chip_name}
use Rattle.gl_base.specs.Decimal.{decimal}
use Rattle.gl_base.specs.Name.{field_of, is_name}
use Rattle.gl_base.specs.Refusals.{first_of, when}
use Rattle.gl_base.specs.Rows.{Each}
use Rattle.gl_base.specs.declared.errno.Errno.{Errno}
use Rattle.gl_base.specs.declared.errno.Errno.TheVariants.{BadF, Busy, Inval, Io, NoSpc}
use Rattle.gl_base.specs.declared.limits.TheConstants.{PLACES}
use Rattle.gl_base.specs.declared.lines.Lines.{Lines}
use Rattle.gl_base.specs.declared.settings.Resolved.{Resolved}
use Rattle.gl_desc.specs.Desc.{is_free}
use Rattle.gl_irq.specs.Irq.{act_refusal}
use Rattle.gl_registry.specs.Chips.{chip_at}
use Rattle.gl_simtree.specs.Calls.{live_refusal, mkdir_refusal, remove_refusal, rmdir_refusal, write_refusal}
use Rattle.gl_simtree.specs.Nodes.{node_at}
use Rattle.gl_uapi.proofs.ChangedLaws.{length-changed_bytes}
use Rattle.gl_uapi.proofs.ChipLaws.{length-chip_bytes}
use Rattle.gl_uapi.proofs.EventLaws.{length-event_bytes}
use Rattle.gl_uapi.proofs.InfoLaws.{length-info_bytes}
use Rattle.gl_uapi.proofs.NameFields.{length-field_of}
use Rattle.gl_uapi.proofs.Reading.{length-number_bytes}
use Rattle.gl_uapi.proofs.ValuesLaws.{length-values_bytes}
use Rattle.gl_uapi.specs.Command.{command_of, size_of}
use Rattle.gl_uapi.specs.Fields.{number_at, number_bytes}
use Rattle.gl_uapi.specs.InfoChanged.{changed_bytes}
use Rattle.gl_uapi.specs.LineEvent.{event_bytes}
use Rattle.gl_uapi.specs.declared.commands.Command.{Command}
use Rattle.gl_uapi.specs.declared.commands.Command.TheVariants.{ChipInfo, LineInfo, Watch, Unwatch, GetLine, SetConfig, GetValues, SetValues}
use Rattle.gl_uapi.specs.declared.info_changes.Changed.{Changed}
use Rattle.gl_uapi.specs.declared.line_events.Event.{Event}
use Rattle.gl_watch.specs.Files.{file_at, is_file, unwatch_refusal, waiting_in, watch_refusal}
use Rattle.gl_watch.specs.declared.file.ChipFile.{ChipFile}
use Rattle.gl_model.specs.declared.call.Call.TheVariants.{Probe, Unplug, MakeDir, RemoveDir, Write, Read, Live, Remove, Tick, Pin, Irq, Pull, Level, Interrupt, OpenChip, Find, Ioctl, ReadEdges, ReadInfo, PollLine, PollChip, Close, Refused as RefusedCall}
use Rattle.gl_model.specs.declared.call.Part.{Part}
use Rattle.gl_model.specs.declared.call.Part.TheVariants.{Whole, Ask, Tell}
use Rattle.gl_model.specs.declared.reply.Reply.{Reply}
use Rattle.gl_model.specs.declared.reply.Reply.TheVariants.{Go, Refused}
use Rattle.gl_model.specs.AskedLines.{asked_in, request_fault}
use Rattle.gl_model.specs.Chips.{place_refusal, places_left}
use Rattle.gl_model.specs.Claiming.{claim_at, claim_by, claim_refusal, told_claim}
use Rattle.gl_model.specs.Clock.{clock_refusal}
use Rattle.gl_model.specs.Commands.{info_refusal, offset_named, with_watched, write_info}
use Rattle.gl_model.specs.Information.{Line, consumer_shown, info_of, line_at, name_or_mark}
use Rattle.gl_model.specs.Ioctl.{act_on, by_number, checked, in_part}
use Rattle.gl_model.specs.OpenFiles.{chip_file_refusal, command_refusal, in_parts, on_request, request_file_refusal}
use Rattle.gl_model.specs.Opening.{found, is_open, open_at, open_refusal}
use Rattle.gl_model.specs.Outcome.{Outcome, refused_or}
use Rattle.gl_model.specs.Interrupts.{irq_line}
use Rattle.gl_model.specs.Pins.{pin_refusal}
use Rattle.gl_model.specs.Places.{kind_at, lines_at, place_at}
use Rattle.gl_model.specs.Pulls.{is_simulated, level_refusal}
use Rattle.gl_model.specs.Reading.{changes_for, events_for, read_refusal, take_changes, take_events}
use Rattle.gl_model.specs.Removal.{is_unplugging, removed_places, unplug_refusal}
use Rattle.gl_model.specs.Tree.{read_outcome}
use Rattle.gl_model.specs.Names.{HasNames}
use Rattle.gl_model.specs.Written.{HasNamesIn, RepliesTellLengths, command_writes, if_done, number_answered, numbered_command_writes}
use Rattle.gl_model.specs.World.{World, Request, request_at}

-- fields

short_field : (name : List ℕ) → length name ≤ 32 → length (field_of name) ≡ 32
short_field name short = length-append name (replicate (32 - length name) 0) ∙ omega (arith, length-replicate {A = ℕ} (32 - length name) 0)

chip_field : (place : ℕ) → place < PLACES → length (field_of (chip_name place)) ≡ 32
chip_field place low = short_field (chip_name place) (omega (arith, length-append (codes "gpiochip") (decimal place), length-decimal-le 3 place (omega arith) (omega arith) (omega arith)))

marked_field : (name : List ℕ) → IsTrue (is_name name) → length (field_of (name_or_mark name)) ≡ 32
marked_field [] h = short_field (codes "?") (omega arith)
marked_field (byte ∷ name) h = length-field_of (byte ∷ name) h

consumer_field : (line : Line) → IsTrue (is_name line.desc.consumer) → length (field_of (consumer_shown line)) ≡ 32
consumer_field line h = by_holder (is_free line.desc.holder) line.irq.locked
  where
    by_holder : (free locked : Bool) → length (field_of (if free then (if locked then codes "interrupt" else []) else name_or_mark line.desc.consumer)) ≡ 32
    by_holder true true = short_field (codes "interrupt") (omega arith)
    by_holder true false = short_field [] (omega arith)
    by_holder false locked = marked_field line.desc.consumer h

-- what is spelled

module _ {X : Type 0} where
  length-spelled : (spell : X → List ℕ) (size : ℕ) (xs : List X) → Each (λ x. length (spell x) ≡ size) xs → length (flat_map spell xs) ≡ size * length xs
  length-spelled spell size [] all = omega arith
  length-spelled spell size (x ∷ xs) all =
      let behind = length-spelled spell size xs all.1 in
      omega (arith, length-append (spell x) (flat_map spell xs), all.0, behind)

each_event : (events : List Event) → Each (λ event. length (event_bytes event) ≡ 48) events
each_event [] = tt
each_event (event ∷ events) = (length-event_bytes event, each_event events)

each_change : (changes : List Changed) → Each HasNamesIn changes → Each (λ changed. length (changed_bytes changed) ≡ 288) changes
each_change [] all = tt
each_change (changed ∷ changes) all =
    let info = changed.info in
    let whole = length-info_bytes info (length-field_of info.name all.0.0) (length-field_of info.consumer all.0.1) in
    (length-changed_bytes changed whole, each_change changes all.1)

-- outcomes

-- an outcome has so many bytes, by its reply
abbrev Writes : (Reply → ℕ) → Outcome → Type 0
Writes size out = length out.bytes ≡ size out.reply

writes_unless : (size : Reply → ℕ) (r : Option Errno) (w : World) (out : Outcome)
    → ((errno : Errno) → 0 ≡ size (Refused errno)) → Writes size out → Writes size (refused_or r w out)
writes_unless size None w out none h = h
writes_unless size (Some errno) w out none h = none errno

writes_in_parts : (size : Reply → ℕ) (part : Part) (act : ℕ → World → Outcome) (w : World) → ((errno : Errno) → 0 ≡ size (Refused errno)) → 0 ≡ size (Go 0)
    → ((bits : ℕ) → Writes size (act bits w)) → Writes size (in_parts part act w)
writes_in_parts size Whole act w none go h = none Inval
writes_in_parts size Ask act w none go h = go
writes_in_parts size (Tell None) act w none go h = none Io
writes_in_parts size (Tell (Some bits)) act w none go h = h bits

writes_on_request : (size : Reply → ℕ) (act : Lines → Resolved → World → Outcome) (r : Option Request) (w : World) → ((errno : Errno) → 0 ≡ size (Refused errno))
    → ((lines : Lines) (settings : Resolved) → Writes size (act lines settings w)) → Writes size (on_request act r w)
writes_on_request size act None w none h = none BadF
writes_on_request size act (Some request) w none h = h request.lines request.settings

info_written : (w v : World) → v.places ≡ w.places → HasNames w → (place offset : ℕ) → Writes (if_done 256) (write_info place offset v)
info_written w v e names place offset =
    let same : place_at v place ≡ place_at w place = ap (λ places. place_at (record w { places = places }) place) e in
    let line = line_at (place_at v place) offset in
    length-info_bytes (info_of offset line)
    (length-field_of line.desc.name (subst (λ tables. IsTrue (is_name (line_at tables offset).desc.name)) (sym same) (names.names place offset)))
    (consumer_field line (subst (λ tables. IsTrue (is_name (line_at tables offset).desc.consumer)) (sym same) (names.consumers place offset)))

act_written : (actor place fd len : ℕ) (command : Command) (bytes : List ℕ) (part : Part) (w : World) → place < PLACES → HasNames w
    → Writes (command_writes command len) (act_on actor place fd command bytes part w)
act_written actor place fd len ChipInfo bytes part w low names =
    length-chip_bytes (chip_name place) (chip_at w.chips place).label (lines_at w place) (chip_field place low) (length-field_of (chip_at w.chips place).label (names.labels place))
act_written actor place fd len LineInfo bytes part w low names =
    writes_unless (if_done 256) (info_refusal place bytes w) w _ (λ errno. refl) (info_written w w refl names place (offset_named bytes))
act_written actor place fd len Watch bytes part w low names =
    writes_unless (if_done 256) (first_of (info_refusal place bytes w ∷ watch_refusal (offset_named bytes) (file_at fd w.files) ∷ [])) w _ (λ errno. refl)
    (info_written w (with_watched fd (offset_named bytes) true w) refl names place (offset_named bytes))
act_written actor place fd len Unwatch bytes part w low names =
    writes_unless (if_done 4) (first_of (when (nat_le (lines_at w place) (number_at 4 0 bytes)) Inval ∷ unwatch_refusal (number_at 4 0 bytes) (file_at fd w.files) ∷ [])) w _
    (λ errno. refl) (length-number_bytes 4 (number_at 4 0 bytes))
act_written actor place fd len GetLine bytes part w low names =
    writes_unless (command_writes GetLine len) (request_fault bytes) w _ (λ errno. refl)
    (writes_unless (command_writes GetLine len) (claim_refusal place actor (asked_in bytes) w) w _ (λ errno. refl) refl)
act_written actor place fd len SetConfig bytes part w low names =
    writes_on_request (command_writes SetConfig len) _ (request_at w.requests fd) w (λ errno. refl)
    (λ lines settings. writes_unless (command_writes SetConfig len) _ w _ (λ errno. refl) (writes_in_parts (command_writes SetConfig len) part _ w (λ errno. refl) refl (λ bits. refl)))
act_written actor place fd len GetValues bytes part w low names =
    writes_on_request (if_done 16) _ (request_at w.requests fd) w (λ errno. refl)
    (λ lines settings. writes_unless (if_done 16) _ w _ (λ errno. refl) (writes_in_parts (if_done 16) part _ w (λ errno. refl) refl (λ bits. length-values_bytes _ _)))
act_written actor place fd len SetValues bytes part w low names =
    writes_on_request (command_writes SetValues len) _ (request_at w.requests fd) w (λ errno. refl)
    (λ lines settings. writes_unless (command_writes SetValues len) _ w _ (λ errno. refl) (writes_in_parts (command_writes SetValues len) part _ w (λ errno. refl) refl (λ bits. refl)))

refused_none : (command : Command) (len : ℕ) (errno : Errno) → 0 ≡ command_writes command len (Refused errno)
refused_none ChipInfo len errno = refl
refused_none LineInfo len errno = refl
refused_none Watch len errno = refl
refused_none Unwatch len errno = refl
refused_none GetLine len errno = refl
refused_none SetConfig len errno = refl
refused_none GetValues len errno = refl
refused_none SetValues len errno = refl

checked_written : (actor place fd len : ℕ) (command : Command) (bytes : List ℕ) (part : Part) (w : World) → place < PLACES → HasNames w
    → Writes (command_writes command len) (checked actor place fd len command bytes part w)
checked_written actor place fd len command bytes part w low names =
    writes_unless (command_writes command len) (command_refusal place fd len command part w) w _ (refused_none command len)
    (act_written actor place fd len command (take (size_of command) bytes) part w low names)

told_written : (answer : Option ℕ) (len : ℕ) (bytes : List ℕ) (r : Option Request) (w : World) → length bytes ≡ 592
    → Writes (command_writes GetLine len) (told_claim answer len bytes r w)
told_written answer len bytes None w long = refl
told_written None len bytes (Some request) w long = refl
told_written (Some bits) len bytes (Some request) w long =
    let field = number_bytes 4 request.fd in
    let behind = drop (588 + length field) bytes in
    let whole : length (take 588 bytes ++ (field ++ behind)) ≡ 592 =
    omega (
      arith,
      long,
      length-append (take 588 bytes) (field ++ behind),
      length-append field behind,
      length-take 588 bytes,
      length-number_bytes 4 request.fd,
      length-drop (588 + length field) bytes,
    ) in
    length-take len (take 588 bytes ++ (field ++ behind)) ∙ ap (λ n. min len n) whole

part_written : (actor place fd len : ℕ) (command : Command) (bytes : List ℕ) (part : Part) (w : World) → place < PLACES → length bytes ≡ 592 → HasNames w
    → Writes (command_writes command len) (in_part actor place fd len command bytes part w)
part_written actor place fd len GetLine bytes Whole w low long names = checked_written actor place fd len GetLine bytes Whole w low names
part_written actor place fd len GetLine bytes Ask w low long names = checked_written actor place fd len GetLine bytes Ask w low names
part_written actor place fd len GetLine bytes (Tell answer) w low long names = told_written answer len bytes (claim_at place (claim_by w.requests actor)) w long
part_written actor place fd len ChipInfo bytes part w low long names = checked_written actor place fd len ChipInfo bytes part w low names
part_written actor place fd len LineInfo bytes part w low long names = checked_written actor place fd len LineInfo bytes part w low names
part_written actor place fd len Watch bytes part w low long names = checked_written actor place fd len Watch bytes part w low names
part_written actor place fd len Unwatch bytes part w low long names = checked_written actor place fd len Unwatch bytes part w low names
part_written actor place fd len SetConfig bytes part w low long names = checked_written actor place fd len SetConfig bytes part w low names
part_written actor place fd len GetValues bytes part w low long names = checked_written actor place fd len GetValues bytes part w low names
part_written actor place fd len SetValues bytes part w low long names = checked_written actor place fd len SetValues bytes part w low names

number_written : (actor place fd len : ℕ) (command : Option Command) (bytes : List ℕ) (part : Part) (w : World) → place < PLACES → length bytes ≡ 592 → HasNames w
    → Writes (numbered_command_writes command len) (by_number actor place fd len command bytes part w)
number_written actor place fd len None bytes part w low long names = refl
number_written actor place fd len (Some command) bytes part w low long names = part_written actor place fd len command bytes part w low long names

-- the other calls

-- a call that writes nothing, or is refused
none_written : (r : Option Errno) (w : World) (out : Outcome) → length out.bytes ≡ 0 → length (refused_or r w out).bytes ≡ 0
none_written None w out h = h
none_written (Some errno) w out h = refl

open_written : (place : Option ℕ) (w : World) → length (open_at place w).bytes ≡ 0
open_written None w = refl
open_written (Some place) w = none_written (open_refusal place w) w _ refl

found_written : (lines : List (ℕ × ℕ)) (w : World) → length (found lines w).bytes ≡ 0
found_written [] w = refl
found_written (line ∷ lines) w = refl

text_written : (answer : Result (List ℕ) Errno) (w : World) → length (read_outcome answer w).bytes ≡ 0
text_written (Ok text) w = refl
text_written (Err errno) w = refl

-- the bytes of the first items, as many as there are or as there is room for
items_written : {X : Type 0} (spell : X → List ℕ) (size len : ℕ) (items : List X) → Each (λ x. length (spell x) ≡ size) items
    → length (flat_map spell (take (min (len / size) (length items)) items)) ≡ size * min (len / size) (length items)
items_written spell size len items all =
    let count = min (len / size) (length items) in
    length-spelled spell size (take count items) (Each-take (λ x. length (spell x) ≡ size) count items all)
    ∙ ap (λ n. size * n) (length-take-le count items (omega arith))

-- the changes that wait for one file
named_in : (f : Option ChipFile) → ((file : ChipFile) → f ≡ Some file → Each HasNamesIn file.changes) → Each HasNamesIn (waiting_in f)
named_in None h = tt
named_in (Some file) h = h file refl

pub replies_tell_lengths : RepliesTellLengths
replies_tell_lengths w actor (Probe label lines kind) fits = none_written (when (nat_le PLACES (length w.chips)) NoSpc) w _ refl
replies_tell_lengths w actor (Unplug place false) fits = writes_unless (if_done 2) (unplug_refusal place w) w _ (λ errno. refl) refl
replies_tell_lengths w actor (Unplug place true) fits = none_written (when (not (is_unplugging actor w place)) Busy) w _ refl
replies_tell_lengths w actor (MakeDir path) fits = none_written (mkdir_refusal (node_at path) w.tree) w _ refl
replies_tell_lengths w actor (RemoveDir path) fits = none_written (rmdir_refusal (node_at path) w.tree) w _ refl
replies_tell_lengths w actor (Write path value) fits = none_written (write_refusal (node_at path) value w.tree) w _ refl
replies_tell_lengths w actor (Read path) fits = text_written _ w
replies_tell_lengths w actor (Live device) fits = none_written (live_refusal device (places_left w) w.tree) w _ refl
replies_tell_lengths w actor (Remove device false) fits = writes_unless (if_done 2) (remove_refusal device w.tree) w _ (λ errno. refl) refl
replies_tell_lengths w actor (Remove device true) fits = none_written (when (length (removed_places device actor w) == 0) Busy) w _ refl
replies_tell_lengths w actor (Tick mono real) fits = none_written (clock_refusal mono real w) w _ refl
replies_tell_lengths w actor (Pin place what) fits = none_written (first_of (place_refusal place w ∷ pin_refusal (lines_at w place) (place_at w place) what ∷ [])) w _ refl
replies_tell_lengths w actor (Irq place offset what) fits =
    none_written (first_of (place_refusal place w ∷ act_refusal (place_at w place).irqs offset what (irq_line (place_at w place) offset) ∷ [])) w _ refl
replies_tell_lengths w actor (Pull place offset up) fits = none_written (level_refusal place offset (is_simulated (kind_at w place)) w) w _ refl
replies_tell_lengths w actor (Level place offset pull) fits = none_written (level_refusal place offset (is_simulated (kind_at w place)) w) w _ refl
replies_tell_lengths w actor (Interrupt place offset up) fits = none_written (level_refusal place offset (not (is_simulated (kind_at w place))) w) w _ refl
replies_tell_lengths w actor (OpenChip word) fits = open_written _ w
replies_tell_lengths w actor (Find place name) fits = found_written _ w
replies_tell_lengths w actor (Ioctl place fd cmd len bytes part) fits = number_written actor place fd len (command_of cmd) bytes part w fits.1 fits.2 fits.0
replies_tell_lengths w actor (ReadEdges place fd len) fits =
    writes_unless number_answered (first_of (request_file_refusal place fd w ∷ read_refusal 48 len (length (events_for fd w)) ∷ [])) w (take_events fd len w) (λ errno. refl)
    (items_written event_bytes 48 len (events_for fd w) (each_event (events_for fd w)))
replies_tell_lengths w actor (ReadInfo place fd len) fits =
    writes_unless number_answered (first_of (chip_file_refusal place fd w ∷ read_refusal 288 len (length (changes_for fd w)) ∷ [])) w (take_changes fd len w) (λ errno. refl)
    (items_written changed_bytes 288 len (changes_for fd w) (each_change (changes_for fd w)
    (named_in (file_at fd w.files) (λ file e. Each-find (λ f. Each HasNamesIn f.changes) (is_file fd) w.files file fits e))))
replies_tell_lengths w actor (PollLine place fd) fits = none_written (request_file_refusal place fd w) w _ refl
replies_tell_lengths w actor (PollChip place fd) fits = none_written (chip_file_refusal place fd w) w _ refl
replies_tell_lengths w actor (Close fd) fits = none_written (when (not (is_open fd w)) BadF) w _ refl
replies_tell_lengths w actor (RefusedCall place is_poll) fits = refl
