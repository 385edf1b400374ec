-- What a call leaves of the chips, their origins and the tree.
use Rattle.std.proofs.Common.{◌≡◌, ◌+◌, ℕ, List, [], ◌∷◌, refl, ◌∙◌, Bool, true, false, Option, Some, None, cond}
use Rattle.gl_base.specs.declared.errno.Errno.{Errno}
use Rattle.gl_base.specs.declared.lines.Lines.{Lines}
use Rattle.gl_base.specs.declared.settings.Resolved.{Resolved}
use Rattle.gl_bank.specs.declared.levels.Change.{Change}
use Rattle.gl_bank.specs.declared.levels.Levels.{Levels}
use Rattle.gl_debounce.specs.declared.timer.Fired.{Fired}
use Rattle.gl_registry.specs.declared.registry.Chip.{Chip}
use Rattle.gl_simtree.specs.declared.row.TreeRow.{TreeRow}
use Rattle.gl_uapi.specs.declared.commands.Command.{Command}
use Rattle.gl_uapi.specs.declared.commands.Command.TheVariants.{ChipInfo, LineInfo, Watch, Unwatch, GetLine, SetConfig, GetValues, SetValues}
use Rattle.gl_base.specs.Bits.{has_bit}
use Rattle.gl_model.specs.declared.place.Origin.{Origin}
use Rattle.gl_model.specs.declared.call.Part.{Part}
use Rattle.gl_model.specs.declared.call.Part.TheVariants.{Whole, Ask, Tell}
use Rattle.gl_attrs.specs.Setting.{resolved_for}
use Rattle.gl_base.specs.Lines.{offsets_of}
use Rattle.gl_base.specs.Refusals.{when}
use Rattle.gl_base.specs.Rows.{change_first, without_first}
use Rattle.gl_base.specs.declared.errno.Errno.TheVariants.{BadF}
use Rattle.gl_debounce.specs.Fire.{fires}
use Rattle.gl_watch.specs.Files.{is_file}
use Rattle.gl_desc.specs.Desc.{settled}
use Rattle.gl_uapi.specs.declared.layout.TheConstants.{CHANGED_CONFIG, CHANGED_RELEASED, CHANGED_REQUESTED}
use Rattle.gl_model.specs.Claiming.{told_claim, get_line_ask, held, with_descs}
use Rattle.gl_model.specs.Clock.{clock_refusal, fire, settle, settle_each, tick}
use Rattle.gl_model.specs.Configuring.{configure, configure_each, configure_from, settings_of, with_levels, is_directed, reconfigure_from, set_config, settings_after, with_settings}
use Rattle.gl_model.specs.Edges.{edge_for, edge, raw_edge, raw_edge_for}
use Rattle.gl_model.specs.Ioctl.{act_on, checked, in_part, by_number, ioctl}
use Rattle.gl_model.specs.Notify.{notify, notify_each}
use Rattle.gl_model.specs.Opening.{close, close_request, found, is_open, open_at, without_request}
use Rattle.gl_model.specs.OpenFiles.{in_parts, on_request}
use Rattle.gl_model.specs.Outcome.{Outcome, done, refused_or}
use Rattle.gl_model.specs.Tree.{read_outcome}
use Rattle.gl_model.specs.Places.{with_place}
use Rattle.gl_model.specs.Values.{bits_in, drive_from, driven_with, get_values, mask_in, set_values}
use Rattle.gl_model.specs.World.{World, Request, has_number, request_at}
use Rattle.std.specs.Prelude.{Result, Ok, Err, not}

abbrev pub Board : Type 0
Board = List Chip × List Origin × List TreeRow

abbrev pub board : World → Board
board w = (w.chips, w.origins, w.tree)

-- a refusal keeps what the change keeps
pub keeps : (r : Option Errno) (w : World) (out : Outcome) → board out.world ≡ board w → board (refused_or r w out).world ≡ board w
keeps None w out h = h
keeps (Some e) w out h = refl

either : (b : Bool) (v u w : World) → board v ≡ board w → board u ≡ board w → board (cond b v u) ≡ board w
either true v u w h k = h
either false v u w h k = k

edge_for-board : (o : Option ℕ) (offset : ℕ) (line : Levels) (up : Bool) (mono : ℕ) (w : World) → board (edge_for o offset line up mono w) ≡ board w
edge_for-board None offset line up mono w = refl
edge_for-board (Some fd) offset line up mono w = refl

edge-board : (place offset : ℕ) (up : Bool) (mono : ℕ) (w : World) → board (edge place offset up mono w) ≡ board w
edge-board place offset up mono w = edge_for-board _ offset _ up mono w

raw_edge_for-board : (o : Option ℕ) (place offset : ℕ) (up : Bool) (w : World) → board (raw_edge_for o place offset up w) ≡ board w
raw_edge_for-board None place offset up w = refl
raw_edge_for-board (Some fd) place offset up w = either _ _ _ w (edge-board place offset up w.mono w) refl

pub raw_edge-board : (place offset : ℕ) (o : Option Change) (w : World) → board (raw_edge place offset o w) ≡ board w
raw_edge-board place offset None w = refl
raw_edge-board place offset (Some change) w = raw_edge_for-board _ place offset change.rose w

settle-board : (line : Fired) (w : World) → board (settle line w) ≡ board w
settle-board line w = either line.changed _ _ w (edge-board line.place line.offset line.level line.deadline _) refl

pub settle_each-board : (lines : List Fired) (w : World) → board (settle_each lines w) ≡ board w
settle_each-board [] w = refl
settle_each-board (line ∷ lines) w = settle_each-board lines (settle line w) ∙ settle-board line w

notify_each-board : (place : ℕ) (offsets : List ℕ) (kind : ℕ) (w : World) → board (notify_each place offsets kind w) ≡ board w
notify_each-board place [] kind w = refl
notify_each-board place (offset ∷ offsets) kind w = notify_each-board place offsets kind (notify place offset kind w)

configure_from-board : (place : ℕ) (settings : Resolved) (bits i : ℕ) (offsets : List ℕ) (w : World) → board (configure_from place settings bits i offsets w) ≡ board w
configure_from-board place settings bits i [] w = refl
configure_from-board place settings bits i (offset ∷ offsets) w = configure_from-board place settings bits (i + 1) offsets (configure place (settings_of settings i) (has_bit bits i) offset w)

reconfigure_from-board : (place : ℕ) (settings : Resolved) (bits i : ℕ) (offsets : List ℕ) (w : World) → board (reconfigure_from place settings bits i offsets w) ≡ board w
reconfigure_from-board place settings bits i [] w = refl
reconfigure_from-board place settings bits i (offset ∷ offsets) w =
    let next : World = cond (is_directed settings i) (notify place offset CHANGED_CONFIG (configure place (settings_of settings i) (has_bit bits i) offset w)) w in
    reconfigure_from-board place settings bits (i + 1) offsets next ∙ either (is_directed settings i) _ _ w refl refl

drive_from-board : (place mask bits i : ℕ) (offsets : List ℕ) (w : World) → board (drive_from place mask bits i offsets w) ≡ board w
drive_from-board place mask bits i [] w = refl
drive_from-board place mask bits i (offset ∷ offsets) w =
    let next : World = cond (has_bit mask i) (with_place place (with_levels offset (driven_with (has_bit bits i))) w) w in
    drive_from-board place mask bits (i + 1) offsets next ∙ either (has_bit mask i) _ _ w refl refl

in_parts-board : (part : Part) (act : ℕ → World → Outcome) (w : World) → ((bits : ℕ) → board (act bits w).world ≡ board w) → board (in_parts part act w).world ≡ board w
in_parts-board Whole act w h = refl
in_parts-board Ask act w h = refl
in_parts-board (Tell None) act w h = refl
in_parts-board (Tell (Some bits)) act w h = h bits

on_request-board : (act : Lines → Resolved → World → Outcome) (o : Option Request) (w : World) → ((lines : Lines) (settings : Resolved) → board (act lines settings w).world ≡ board w) → board (on_request act o w).world ≡ board w
on_request-board act None w h = refl
on_request-board act (Some request) w h = h request.lines request.settings

set_config-board : (place fd : ℕ) (bytes : List ℕ) (part : Part) (lines : Lines) (settings : Resolved) (w : World) → board (set_config place fd bytes part lines settings w).world ≡ board w
set_config-board place fd bytes part lines settings w =
    let after : Resolved = resolved_for bytes lines.count in
    let set : World = record w { requests = change_first (has_number fd) (with_settings (settings_after settings after lines.count)) w.requests } in
    keeps _ w _ (in_parts-board part _ w (λ bits. reconfigure_from-board place after bits 0 (offsets_of lines) set))

get_values-board : (place : ℕ) (bytes : List ℕ) (part : Part) (lines : Lines) (settings : Resolved) (w : World) → board (get_values place bytes part lines settings w).world ≡ board w
get_values-board place bytes part lines settings w = keeps _ w _ (in_parts-board part _ w (λ bits. refl))

set_values-board : (place : ℕ) (bytes : List ℕ) (part : Part) (lines : Lines) (settings : Resolved) (w : World) → board (set_values place bytes part lines settings w).world ≡ board w
set_values-board place bytes part lines settings w = keeps _ w _ (in_parts-board part _ w (λ bits_told. drive_from-board place (mask_in bytes) (bits_in bytes) 0 (offsets_of lines) w))

told_claim-board : (answer : Option ℕ) (len : ℕ) (bytes : List ℕ) (o : Option Request) (w : World) → board (told_claim answer len bytes o w).world ≡ board w
told_claim-board answer len bytes None w = refl
told_claim-board None len bytes (Some request) w = refl
told_claim-board (Some bits) len bytes (Some request) w =
    let offsets : List ℕ = offsets_of request.lines in
    let lines_held : World = with_place request.place (with_descs offsets settled) (record w { requests = change_first (has_number request.fd) held w.requests }) in
    notify_each-board request.place offsets CHANGED_REQUESTED (configure_each request.place request.lines request.settings bits lines_held)
    ∙ configure_from-board request.place request.settings bits 0 offsets lines_held

get_line_ask-board : (place actor : ℕ) (bytes : List ℕ) (w : World) → board (get_line_ask place actor bytes w).world ≡ board w
get_line_ask-board place actor bytes w = keeps _ w _ (keeps _ w _ refl)

act_on-board : (actor place fd : ℕ) (command : Command) (bytes : List ℕ) (part : Part) (w : World) → board (act_on actor place fd command bytes part w).world ≡ board w
act_on-board actor place fd ChipInfo bytes part w = refl
act_on-board actor place fd LineInfo bytes part w = keeps _ w _ refl
act_on-board actor place fd Watch bytes part w = keeps _ w _ refl
act_on-board actor place fd Unwatch bytes part w = keeps _ w _ refl
act_on-board actor place fd GetLine bytes part w = get_line_ask-board place actor bytes w
act_on-board actor place fd SetConfig bytes part w = on_request-board (set_config place fd bytes part) (request_at w.requests fd) w (λ lines settings. set_config-board place fd bytes part lines settings w)
act_on-board actor place fd GetValues bytes part w = on_request-board (get_values place bytes part) (request_at w.requests fd) w (λ lines settings. get_values-board place bytes part lines settings w)
act_on-board actor place fd SetValues bytes part w = on_request-board (set_values place bytes part) (request_at w.requests fd) w (λ lines settings. set_values-board place bytes part lines settings w)

checked-board : (actor place fd len : ℕ) (command : Command) (bytes : List ℕ) (part : Part) (w : World) → board (checked actor place fd len command bytes part w).world ≡ board w
checked-board actor place fd len command bytes part w = keeps _ w _ (act_on-board actor place fd command _ part w)

in_part-board : (actor place fd len : ℕ) (command : Command) (bytes : List ℕ) (part : Part) (w : World) → board (in_part actor place fd len command bytes part w).world ≡ board w
in_part-board actor place fd len ChipInfo bytes part w = checked-board actor place fd len ChipInfo bytes part w
in_part-board actor place fd len LineInfo bytes part w = checked-board actor place fd len LineInfo bytes part w
in_part-board actor place fd len Watch bytes part w = checked-board actor place fd len Watch bytes part w
in_part-board actor place fd len Unwatch bytes part w = checked-board actor place fd len Unwatch bytes part w
in_part-board actor place fd len GetLine bytes Whole w = checked-board actor place fd len GetLine bytes Whole w
in_part-board actor place fd len GetLine bytes Ask w = checked-board actor place fd len GetLine bytes Ask w
in_part-board actor place fd len GetLine bytes (Tell answer) w = told_claim-board answer len bytes _ w
in_part-board actor place fd len SetConfig bytes part w = checked-board actor place fd len SetConfig bytes part w
in_part-board actor place fd len GetValues bytes part w = checked-board actor place fd len GetValues bytes part w
in_part-board actor place fd len SetValues bytes part w = checked-board actor place fd len SetValues bytes part w

by_number-board : (actor place fd len : ℕ) (command : Option Command) (bytes : List ℕ) (part : Part) (w : World) → board (by_number actor place fd len command bytes part w).world ≡ board w
by_number-board actor place fd len None bytes part w = refl
by_number-board actor place fd len (Some command) bytes part w = in_part-board actor place fd len command bytes part w

pub ioctl-board : (actor place fd cmd len : ℕ) (bytes : List ℕ) (part : Part) (w : World) → board (ioctl actor place fd cmd len bytes part w).world ≡ board w
ioctl-board actor place fd cmd len bytes part w = by_number-board actor place fd len _ bytes part w

pub close_request-board : (o : Option Request) (w : World) → board (close_request o w) ≡ board w
close_request-board None w = refl
close_request-board (Some request) w = notify_each-board request.place (offsets_of request.lines) CHANGED_RELEASED (without_request request w)

pub open_at-board : (o : Option ℕ) (w : World) → board (open_at o w).world ≡ board w
open_at-board None w = refl
open_at-board (Some place) w = keeps _ w _ refl

pub found-board : (lines : List (ℕ × ℕ)) (w : World) → board (found lines w).world ≡ board w
found-board [] w = refl
found-board (line ∷ lines) w = refl

pub read_outcome-board : (r : Result (List ℕ) Errno) (w : World) → board (read_outcome r w).world ≡ board w
read_outcome-board (Ok text) w = refl
read_outcome-board (Err errno) w = refl

pub tick-board : (mono real : ℕ) (w : World) → board (tick mono real w).world ≡ board w
tick-board mono real w = keeps (clock_refusal mono real w) w (done (fire (record w { mono = mono; real = real }))) (settle_each-board (fires mono w.timers) (record w { mono = mono; real = real }))

pub close-board : (fd : ℕ) (w : World) → board (close fd w).world ≡ board w
close-board fd w =
    let without : World = record w { files = without_first (is_file fd) w.files } in
    keeps (when (not (is_open fd w)) BadF) w (done (close_request (request_at w.requests fd) without)) (close_request-board (request_at w.requests fd) without)
