-- The names in the changes that wait are names, whatever call is made in a world whose names are names.
use Rattle.std.proofs.Common.{◌≡◌, ◌+◌, ℕ, zero, suc, Bool, true, false, cond, not, refl, sym, ◌∙◌, subst, List, [], ◌∷◌, ◌++◌, length, map, take, drop, Option, Some, None, Result, Ok, Err, min}
use Rattle.std.specs.Prelude.{IsTrue, ◌/◌, codes, flat_map, slice_index_or}
use Rattle.gl_attrs.specs.Setting.{resolved_for}
use Rattle.gl_bank.specs.Level.{first_levels, levels_at, pulled}
use Rattle.gl_bank.specs.declared.levels.Change.{Change}
use Rattle.gl_bank.specs.declared.levels.Levels.{Levels}
use Rattle.gl_base.proofs.FirstRows.{Each-change_first, Each-push, Each-without_first}
use Rattle.gl_base.specs.Bits.{has_bit}
use Rattle.gl_base.specs.Lines.{offsets_of}
use Rattle.gl_base.specs.Name.{is_name}
use Rattle.gl_base.specs.Positions.{change_at, change_each}
use Rattle.gl_base.specs.Refusals.{first_of, when}
use Rattle.gl_base.specs.Rows.{Each, change_first, without_first}
use Rattle.gl_base.specs.declared.errno.Errno.{Errno}
use Rattle.gl_base.specs.declared.errno.Errno.TheVariants.{BadF}
use Rattle.gl_base.specs.declared.lines.Lines.{Lines}
use Rattle.gl_base.specs.declared.settings.Resolved.{Resolved}
use Rattle.gl_base.specs.declared.settings.Settings.{Settings}
use Rattle.gl_debounce.specs.Fire.{fires}
use Rattle.gl_debounce.specs.declared.timer.Fired.{Fired}
use Rattle.gl_desc.specs.Desc.{desc_at, first_desc, freed, is_free, settled}
use Rattle.gl_desc.specs.declared.desc.Desc.{Desc}
use Rattle.gl_registry.specs.Chips.{place_of_word}
use Rattle.gl_simtree.specs.Calls.{read_answer}
use Rattle.gl_simtree.specs.Nodes.{node_at}
use Rattle.gl_uapi.specs.Command.{command_of, size_of}
use Rattle.gl_uapi.specs.Fields.{number_at}
use Rattle.gl_uapi.specs.declared.commands.Command.{Command}
use Rattle.gl_uapi.specs.declared.commands.Command.TheVariants.{ChipInfo, LineInfo, Watch, Unwatch, GetLine, SetConfig, GetValues, SetValues}
use Rattle.gl_uapi.specs.declared.info_changes.Changed.{Changed}
use Rattle.gl_uapi.specs.declared.layout.TheConstants.{CHANGED_CONFIG, CHANGED_RELEASED, CHANGED_REQUESTED, INFO_CHANGED_SIZE}
use Rattle.gl_watch.specs.Files.{is_file, new_file, notified, with_watch, without_changes}
use Rattle.gl_watch.specs.Queue.{appended}
use Rattle.gl_watch.specs.declared.file.ChipFile.{ChipFile}
use Rattle.gl_model.specs.declared.call.Call.{Call}
use Rattle.gl_model.specs.declared.call.Call.TheVariants.{Probe, Unplug, MakeDir, RemoveDir, Write, Read, Live, Remove, Tick, Pin, Irq, Pull, Level, Interrupt, OpenChip, Find, Ioctl, ReadEdges, ReadInfo, PollLine, PollChip, Close, Refused as RefusedCall}
use Rattle.gl_model.specs.declared.call.Part.{Part}
use Rattle.gl_model.specs.declared.call.Part.TheVariants.{Whole, Ask, Tell}
use Rattle.gl_model.specs.declared.place.Place.{Place}
use Rattle.gl_model.specs.AskedLines.{asked_in, request_fault}
use Rattle.gl_model.specs.Claiming.{claim, claim_at, claim_by, claim_refusal, held, told_claim, with_descs}
use Rattle.gl_model.specs.Clock.{clock_refusal, fire, settle, settle_each}
use Rattle.gl_model.specs.Commands.{offset_named}
use Rattle.gl_model.specs.Configuring.{configure, configure_each, configure_from, configured_on, settings_of, with_levels, is_directed, reconfigure_from, set_config}
use Rattle.gl_model.specs.Edges.{edge, edge_for, raw_edge, raw_edge_for}
use Rattle.gl_model.specs.Information.{Line, consumer_shown, line_at, name_or_mark}
use Rattle.gl_model.specs.Ioctl.{act_on, by_number, checked, in_part}
use Rattle.gl_model.specs.Notify.{change_of, notify, notify_each}
use Rattle.gl_model.specs.OpenFiles.{chip_file_refusal, command_refusal, in_parts, on_request}
use Rattle.gl_model.specs.Opening.{close, close_request, found, is_open, named_at, open_at, open_refusal, searched, with_lines_freed, without_request}
use Rattle.gl_model.specs.Outcome.{Outcome, done, refused_or}
use Rattle.gl_model.specs.Places.{kind_at, no_place, place_at, with_place}
use Rattle.gl_model.specs.Pulls.{pull_change, pull_line}
use Rattle.gl_model.specs.Reading.{changes_for, read_refusal, take_changes}
use Rattle.gl_model.specs.Step.{step}
use Rattle.gl_model.specs.Tree.{read_outcome}
use Rattle.gl_model.specs.Values.{bits_in, drive_from, driven_with, mask_in}
use Rattle.gl_model.specs.Written.{ChangesKeepNames, HasNamedChanges, HasNamesIn}
use Rattle.gl_model.specs.World.{World, Request, has_number, request_at}

-- rows

module _ {X : Type 0} where
  either : (P : X → Type 0) (b : Bool) (x y : X) → P x → P y → P (cond b x y)
  either P true x y h k = h
  either P false x y h k = k

  each_map : (P : X → Type 0) (f : X → X) (xs : List X) → ((x : X) → P x → P (f x)) → Each P xs → Each P (map f xs)
  each_map P f [] h all = tt
  each_map P f (x ∷ xs) h all = (h x all.0, each_map P f xs h all.1)

  each_drop : (P : X → Type 0) (n : ℕ) (xs : List X) → Each P xs → Each P (drop n xs)
  each_drop P zero xs all = all
  each_drop P (suc n) [] all = tt
  each_drop P (suc n) (x ∷ xs) all = each_drop P n xs all.1

  -- what is true of the row at each position stays so, where a change of a row keeps it
  at_keeps : (P : X → Type 0) (d : X) (n : ℕ) (f : X → X) (xs : List X) → ((x : X) → P x → P (f x))
      → ((p : ℕ) → P (slice_index_or xs p d)) → (p : ℕ) → P (slice_index_or (change_at d n f xs) p d)
  at_keeps P d n f [] h all p = all p
  at_keeps P d zero f (x ∷ xs) h all zero = h x (all zero)
  at_keeps P d zero f (x ∷ xs) h all (suc p) = all (suc p)
  at_keeps P d (suc n) f (x ∷ xs) h all zero = all zero
  at_keeps P d (suc n) f (x ∷ xs) h all (suc p) = at_keeps P d n f xs h (λ q. all (suc q)) p

  each_keeps : (P : X → Type 0) (d : X) (ns : List ℕ) (f : X → X) (xs : List X) → ((x : X) → P x → P (f x))
      → ((p : ℕ) → P (slice_index_or xs p d)) → (p : ℕ) → P (slice_index_or (change_each d ns f xs) p d)
  each_keeps P d [] f xs h all = all
  each_keeps P d (n ∷ ns) f xs h all = each_keeps P d ns f (change_at d n f xs) h (at_keeps P d n f xs h all)

-- lines

abbrev Named : Desc → Type 0
Named desc = IsTrue (is_name desc.name) × IsTrue (is_name desc.consumer)

abbrev NamedPlace : Place → Type 0
NamedPlace tables = (offset : ℕ) → Named (desc_at tables.descs offset)

abbrev NamedLines : World → Type 0
NamedLines w = (place : ℕ) → NamedPlace (place_at w place)

lines_kept : (place : ℕ) (f : Place → Place) (w : World) → ((tables : Place) → NamedPlace tables → NamedPlace (f tables)) → NamedLines w → NamedLines (with_place place f w)
lines_kept place f w h lines = at_keeps NamedPlace no_place place f w.places h lines

settled_keeps : (offsets : List ℕ) (tables : Place) → NamedPlace tables → NamedPlace (with_descs offsets settled tables)
settled_keeps offsets tables named = each_keeps Named first_desc offsets settled tables.descs (λ line h. h) named

freed_keeps : (offsets : List ℕ) (tables : Place) → NamedPlace tables → NamedPlace (with_lines_freed offsets tables)
freed_keeps offsets tables named = each_keeps Named first_desc offsets freed tables.descs (λ line h. (h.0, refl)) named

configure_line : (place : ℕ) (settings : Settings) (answered : Bool) (offset : ℕ) (w : World) → NamedLines w → NamedLines (configure place settings answered offset w)
configure_line place settings answered offset w lines = lines_kept place (with_levels offset (configured_on (kind_at w place) settings)) w (λ tables h. h) lines

configure_lines : (place : ℕ) (settings : Resolved) (bits i : ℕ) (offsets : List ℕ) (w : World) → NamedLines w → NamedLines (configure_from place settings bits i offsets w)
configure_lines place settings bits i [] w lines = lines
configure_lines place settings bits i (offset ∷ offsets) w lines =
    configure_lines place settings bits (i + 1) offsets (configure place (settings_of settings i) (has_bit bits i) offset w) (configure_line place (settings_of settings i) (has_bit bits i) offset w lines)

-- what is told

marked : (name : List ℕ) → IsTrue (is_name name) → IsTrue (is_name (name_or_mark name))
marked [] h = refl
marked (byte ∷ name) h = h

shown : (line : Line) → IsTrue (is_name line.desc.consumer) → IsTrue (is_name (consumer_shown line))
shown line h =
    either (λ name. IsTrue (is_name name)) (is_free line.desc.holder) (cond line.irq.locked (codes "interrupt") []) (name_or_mark line.desc.consumer)
    (either (λ name. IsTrue (is_name name)) line.irq.locked (codes "interrupt") [] refl refl) (marked line.desc.consumer h)

told : (place offset kind : ℕ) (w : World) → NamedLines w → HasNamesIn (change_of place offset kind w)
told place offset kind w lines = ((lines place offset).0, shown (line_at (place_at w place) offset) (lines place offset).1)

abbrev NamedFile : ChipFile → Type 0
NamedFile file = Each HasNamesIn file.changes

appended_named : (changed : Changed) (changes : List Changed) → HasNamesIn changed → Each HasNamesIn changes → Each HasNamesIn (appended changed changes)
appended_named changed changes h all = either (Each HasNamesIn) _ (changes ++ changed ∷ []) changes (Each-push HasNamesIn changes changed all h) all

notified_named : (place : ℕ) (changed : Changed) → HasNamesIn changed → (file : ChipFile) → NamedFile file → NamedFile (notified place changed file)
notified_named place changed h file all = either NamedFile _ (record file { changes = appended changed file.changes }) file (appended_named changed file.changes h all) all

notify_named : (place offset kind : ℕ) (w : World) → NamedLines w → HasNamedChanges w → HasNamedChanges (notify place offset kind w)
notify_named place offset kind w lines all = each_map NamedFile _ w.files (notified_named place (change_of place offset kind w) (told place offset kind w lines)) all

notify_each_named : (place : ℕ) (offsets : List ℕ) (kind : ℕ) (w : World) → NamedLines w → HasNamedChanges w → HasNamedChanges (notify_each place offsets kind w)
notify_each_named place [] kind w lines all = all
notify_each_named place (offset ∷ offsets) kind w lines all =
    notify_each_named place offsets kind (notify place offset kind w) lines (notify_named place offset kind w lines all)

-- the files stay

same : (w v : World) → v.files ≡ w.files → HasNamedChanges w → HasNamedChanges v
same w v e all = subst (Each NamedFile) (sym e) all

stay : (r : Option Errno) (w : World) (out : Outcome) → out.world.files ≡ w.files → (refused_or r w out).world.files ≡ w.files
stay None w out e = e
stay (Some errno) w out e = refl

one_of : (b : Bool) (v u w : World) → v.files ≡ w.files → u.files ≡ w.files → (cond b v u).files ≡ w.files
one_of b v u w h k = either (λ (x : World). x.files ≡ w.files) b v u h k

edge_for-files : (o : Option ℕ) (offset : ℕ) (line : Levels) (up : Bool) (mono : ℕ) (w : World) → (edge_for o offset line up mono w).files ≡ w.files
edge_for-files None offset line up mono w = refl
edge_for-files (Some fd) offset line up mono w = refl

edge-files : (place offset : ℕ) (up : Bool) (mono : ℕ) (w : World) → (edge place offset up mono w).files ≡ w.files
edge-files place offset up mono w = edge_for-files _ offset _ up mono w

raw_edge_for-files : (o : Option ℕ) (place offset : ℕ) (up : Bool) (w : World) → (raw_edge_for o place offset up w).files ≡ w.files
raw_edge_for-files None place offset up w = refl
raw_edge_for-files (Some fd) place offset up w = one_of _ _ _ w (edge-files place offset up w.mono w) refl

raw_edge-files : (place offset : ℕ) (o : Option Change) (w : World) → (raw_edge place offset o w).files ≡ w.files
raw_edge-files place offset None w = refl
raw_edge-files place offset (Some change) w = raw_edge_for-files _ place offset change.rose w

settle-files : (line : Fired) (w : World) → (settle line w).files ≡ w.files
settle-files line w = one_of line.changed _ _ w (edge-files line.place line.offset line.level line.deadline _) refl

settle_each-files : (lines : List Fired) (w : World) → (settle_each lines w).files ≡ w.files
settle_each-files [] w = refl
settle_each-files (line ∷ lines) w = settle_each-files lines (settle line w) ∙ settle-files line w

configure_from-files : (place : ℕ) (settings : Resolved) (bits i : ℕ) (offsets : List ℕ) (w : World) → (configure_from place settings bits i offsets w).files ≡ w.files
configure_from-files place settings bits i [] w = refl
configure_from-files place settings bits i (offset ∷ offsets) w = configure_from-files place settings bits (i + 1) offsets (configure place (settings_of settings i) (has_bit bits i) offset w)

drive_from-files : (place mask bits i : ℕ) (offsets : List ℕ) (w : World) → (drive_from place mask bits i offsets w).files ≡ w.files
drive_from-files place mask bits i [] w = refl
drive_from-files place mask bits i (offset ∷ offsets) w =
    let next : World = cond (has_bit mask i) (with_place place (with_levels offset (driven_with (has_bit bits i))) w) w in
    drive_from-files place mask bits (i + 1) offsets next ∙ one_of (has_bit mask i) _ _ w refl refl

pull-files : (r : Option Errno) (place offset : ℕ) (up : Bool) (w : World) → (refused_or r w (done (pull_line place offset up w))).world.files ≡ w.files
pull-files r place offset up w = stay r w (done (pull_line place offset up w))
    (raw_edge-files place offset (pull_change up (levels_at (place_at w place).bank offset))
    (with_place place (λ tables. record tables { bank = change_at first_levels offset (pulled up) tables.bank }) w))

-- commands

abbrev Keeps : World → World → Type 0
Keeps w v = NamedLines w → HasNamedChanges w → HasNamedChanges v

keeps_unless : (r : Option Errno) (w : World) (out : Outcome) → Keeps w out.world → Keeps w (refused_or r w out).world
keeps_unless None w out h = h
keeps_unless (Some errno) w out h = λ lines all. all

keeps_same : (w v : World) → v.files ≡ w.files → Keeps w v
keeps_same w v e = λ lines all. same w v e all

keeps_in_parts : (part : Part) (act : ℕ → World → Outcome) (w : World) → ((bits : ℕ) → Keeps w (act bits w).world) → Keeps w (in_parts part act w).world
keeps_in_parts Whole act w h = λ lines all. all
keeps_in_parts Ask act w h = λ lines all. all
keeps_in_parts (Tell None) act w h = λ lines all. all
keeps_in_parts (Tell (Some bits)) act w h = h bits

keeps_on_request : (act : Lines → Resolved → World → Outcome) (o : Option Request) (w : World)
    → ((lines : Lines) (settings : Resolved) → Keeps w (act lines settings w).world) → Keeps w (on_request act o w).world
keeps_on_request act None w h = λ lines all. all
keeps_on_request act (Some request) w h = h request.lines request.settings

reconfigure_keeps : (place : ℕ) (settings : Resolved) (bits i : ℕ) (offsets : List ℕ) (w : World) → Keeps w (reconfigure_from place settings bits i offsets w)
reconfigure_keeps place settings bits i [] w = λ lines all. all
reconfigure_keeps place settings bits i (offset ∷ offsets) w = λ lines all.
    let configured : World = configure place (settings_of settings i) (has_bit bits i) offset w in
    let configured_lines : NamedLines configured = configure_line place (settings_of settings i) (has_bit bits i) offset w lines in
    let told_of : World = notify place offset CHANGED_CONFIG configured in
    let next : World = cond (is_directed settings i) told_of w in
    reconfigure_keeps place settings bits (i + 1) offsets next
    (either NamedLines (is_directed settings i) told_of w configured_lines lines)
    (either HasNamedChanges (is_directed settings i) told_of w (notify_named place offset CHANGED_CONFIG configured configured_lines all) all)

set_config_keeps : (place fd : ℕ) (bytes : List ℕ) (part : Part) (lines : Lines) (settings : Resolved) (w : World) → Keeps w (set_config place fd bytes part lines settings w).world
set_config_keeps place fd bytes part lines settings w =
    keeps_unless _ w _ (keeps_in_parts part _ w (λ bits. reconfigure_keeps place (resolved_for bytes lines.count) bits 0 (offsets_of lines) _))

told_keeps : (answer : Option ℕ) (len : ℕ) (bytes : List ℕ) (o : Option Request) (w : World) → Keeps w (told_claim answer len bytes o w).world
told_keeps answer len bytes None w = λ lines all. all
told_keeps None len bytes (Some request) w = λ lines all. all
told_keeps (Some bits) len bytes (Some request) w = λ lines all.
    let offsets : List ℕ = offsets_of request.lines in
    let lines_held : World = with_place request.place (with_descs offsets settled) (record w { requests = change_first (has_number request.fd) held w.requests }) in
    let held_lines : NamedLines lines_held = lines_kept request.place (with_descs offsets settled) w (settled_keeps offsets) lines in
    let set : World = configure_each request.place request.lines request.settings bits lines_held in
    notify_each_named request.place offsets CHANGED_REQUESTED set (configure_lines request.place request.settings bits 0 offsets lines_held held_lines)
    (same lines_held set (configure_from-files request.place request.settings bits 0 offsets lines_held) all)

act_keeps : (actor place fd : ℕ) (command : Command) (bytes : List ℕ) (part : Part) (w : World) → Keeps w (act_on actor place fd command bytes part w).world
act_keeps actor place fd ChipInfo bytes part w = λ lines all. all
act_keeps actor place fd LineInfo bytes part w = keeps_same w (act_on actor place fd LineInfo bytes part w).world (stay _ w _ refl)
act_keeps actor place fd Watch bytes part w = keeps_unless _ w _
    (λ lines all. Each-change_first NamedFile (is_file fd) (with_watch (offset_named bytes) true) w.files (λ file h. h) all)
act_keeps actor place fd Unwatch bytes part w = keeps_unless _ w _
    (λ lines all. Each-change_first NamedFile (is_file fd) (with_watch (number_at 4 0 bytes) false) w.files (λ file h. h) all)
act_keeps actor place fd GetLine bytes part w =
    keeps_unless (request_fault bytes) w (claim place actor (asked_in bytes) w) (keeps_unless (claim_refusal place actor (asked_in bytes) w) w _ (λ lines all. all))
act_keeps actor place fd SetConfig bytes part w = keeps_on_request (set_config place fd bytes part) (request_at w.requests fd) w
    (λ lines settings. set_config_keeps place fd bytes part lines settings w)
act_keeps actor place fd GetValues bytes part w = keeps_on_request _ (request_at w.requests fd) w (λ lines settings. keeps_unless _ w _ (keeps_in_parts part _ w (λ bits named all. all)))
act_keeps actor place fd SetValues bytes part w =
    keeps_on_request _ (request_at w.requests fd) w (λ lines settings. keeps_unless _ w _ (keeps_in_parts part _ w
    (λ bits. keeps_same w (drive_from place (mask_in bytes) (bits_in bytes) 0 (offsets_of lines) w) (drive_from-files place (mask_in bytes) (bits_in bytes) 0 (offsets_of lines) w))))

checked_keeps : (actor place fd len : ℕ) (command : Command) (bytes : List ℕ) (part : Part) (w : World) → Keeps w (checked actor place fd len command bytes part w).world
checked_keeps actor place fd len command bytes part w =
    keeps_unless (command_refusal place fd len command part w) w _ (act_keeps actor place fd command (take (size_of command) bytes) part w)

part_keeps : (actor place fd len : ℕ) (command : Command) (bytes : List ℕ) (part : Part) (w : World) → Keeps w (in_part actor place fd len command bytes part w).world
part_keeps actor place fd len ChipInfo bytes part w = checked_keeps actor place fd len ChipInfo bytes part w
part_keeps actor place fd len LineInfo bytes part w = checked_keeps actor place fd len LineInfo bytes part w
part_keeps actor place fd len Watch bytes part w = checked_keeps actor place fd len Watch bytes part w
part_keeps actor place fd len Unwatch bytes part w = checked_keeps actor place fd len Unwatch bytes part w
part_keeps actor place fd len GetLine bytes Whole w = checked_keeps actor place fd len GetLine bytes Whole w
part_keeps actor place fd len GetLine bytes Ask w = checked_keeps actor place fd len GetLine bytes Ask w
part_keeps actor place fd len GetLine bytes (Tell answer) w = told_keeps answer len bytes (claim_at place (claim_by w.requests actor)) w
part_keeps actor place fd len SetConfig bytes part w = checked_keeps actor place fd len SetConfig bytes part w
part_keeps actor place fd len GetValues bytes part w = checked_keeps actor place fd len GetValues bytes part w
part_keeps actor place fd len SetValues bytes part w = checked_keeps actor place fd len SetValues bytes part w

number_keeps : (actor place fd len : ℕ) (command : Option Command) (bytes : List ℕ) (part : Part) (w : World) → Keeps w (by_number actor place fd len command bytes part w).world
number_keeps actor place fd len None bytes part w = λ lines all. all
number_keeps actor place fd len (Some command) bytes part w = part_keeps actor place fd len command bytes part w

-- the other calls

open_keeps : (o : Option ℕ) (w : World) → Keeps w (open_at o w).world
open_keeps None w = λ lines all. all
open_keeps (Some place) w = keeps_unless (open_refusal place w) w _ (λ lines all. Each-push NamedFile w.files (new_file w.next place []) all tt)

found_keeps : (lines : List (ℕ × ℕ)) (w : World) → Keeps w (found lines w).world
found_keeps [] w = λ named all. all
found_keeps (line ∷ lines) w = λ named all. all

text_keeps : (answer : Result (List ℕ) Errno) (w : World) → Keeps w (read_outcome answer w).world
text_keeps (Ok text) w = λ lines all. all
text_keeps (Err errno) w = λ lines all. all

close_request_keeps : (o : Option Request) (w : World) → Keeps w (close_request o w)
close_request_keeps None w = λ lines all. all
close_request_keeps (Some request) w = λ lines all.
    notify_each_named request.place (offsets_of request.lines) CHANGED_RELEASED (without_request request w)
    (lines_kept request.place (with_lines_freed (offsets_of request.lines)) w (freed_keeps (offsets_of request.lines)) lines) all

close_keeps : (fd : ℕ) (w : World) → Keeps w (close fd w).world
close_keeps fd w =
    let without : World = record w { files = without_first (is_file fd) w.files } in
    keeps_unless (when (not (is_open fd w)) BadF) w (done (close_request (request_at w.requests fd) without))
    (λ lines all. close_request_keeps (request_at w.requests fd) without lines (Each-without_first NamedFile (is_file fd) w.files all))

calm : (w : World) (actor : ℕ) (call : Call) → (step w actor call).world.files ≡ w.files → Keeps w (step w actor call).world
calm w actor call e = keeps_same w (step w actor call).world e

step_keeps : (w : World) (actor : ℕ) (call : Call) → Keeps w (step w actor call).world
step_keeps w actor (Probe label lines kind) = calm w actor (Probe label lines kind) (stay _ w _ refl)
step_keeps w actor (Unplug place false) = calm w actor (Unplug place false) (stay _ w _ refl)
step_keeps w actor (Unplug place true) = calm w actor (Unplug place true) (stay _ w _ refl)
step_keeps w actor (MakeDir path) = calm w actor (MakeDir path) (stay _ w _ refl)
step_keeps w actor (RemoveDir path) = calm w actor (RemoveDir path) (stay _ w _ refl)
step_keeps w actor (Write path value) = calm w actor (Write path value) (stay _ w _ refl)
step_keeps w actor (Read path) = text_keeps (read_answer (node_at path) w.tree) w
step_keeps w actor (Live device) = calm w actor (Live device) (stay _ w _ refl)
step_keeps w actor (Remove device false) = calm w actor (Remove device false) (stay _ w _ refl)
step_keeps w actor (Remove device true) = calm w actor (Remove device true) (stay _ w _ refl)
step_keeps w actor (Tick mono real) =
    let at : World = record w { mono = mono; real = real } in
    calm w actor (Tick mono real) (stay (clock_refusal mono real w) w (done (fire at)) (settle_each-files (fires mono w.timers) at))
step_keeps w actor (Pin place what) = calm w actor (Pin place what) (stay _ w _ refl)
step_keeps w actor (Irq place offset what) = calm w actor (Irq place offset what) (stay _ w _ refl)
step_keeps w actor (Pull place offset up) = calm w actor (Pull place offset up) (pull-files _ place offset up w)
step_keeps w actor (Level place offset pull) = calm w actor (Level place offset pull) (stay _ w _ refl)
step_keeps w actor (Interrupt place offset up) = calm w actor (Interrupt place offset up) (pull-files _ place offset up w)
step_keeps w actor (OpenChip word) = open_keeps (place_of_word w.chips word) w
step_keeps w actor (Find place name) = found_keeps (flat_map (named_at name w) (searched place w)) w
step_keeps w actor (Ioctl place fd cmd len bytes part) = number_keeps actor place fd len (command_of cmd) bytes part w
step_keeps w actor (ReadEdges place fd len) = calm w actor (ReadEdges place fd len) (stay _ w _ refl)
step_keeps w actor (ReadInfo place fd len) =
    let count = min (len / INFO_CHANGED_SIZE) (length (changes_for fd w)) in
    keeps_unless (first_of (chip_file_refusal place fd w ∷ read_refusal INFO_CHANGED_SIZE len (length (changes_for fd w)) ∷ [])) w (take_changes fd len w)
    (λ lines all. Each-change_first NamedFile (is_file fd) (without_changes count) w.files (λ file h. each_drop HasNamesIn count file.changes h) all)
step_keeps w actor (PollLine place fd) = calm w actor (PollLine place fd) (stay _ w _ refl)
step_keeps w actor (PollChip place fd) = calm w actor (PollChip place fd) (stay _ w _ refl)
step_keeps w actor (Close fd) = close_keeps fd w
step_keeps w actor (RefusedCall place poll) = λ lines all. all

pub changes_keep_names : ChangesKeepNames
changes_keep_names = record {
  at_first = tt;
  kept = λ w names all actor call. step_keeps w actor call (λ place offset. (names.names place offset, names.consumers place offset)) all;
}
