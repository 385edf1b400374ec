-- What each call does to the requests, the chip files and the holders of lines: most calls leave them as they are.
use Rattle.std.proofs.Common.{◌≡◌, ◌+◌, ℕ, zero, suc, List, [], ◌∷◌, map, refl, ap, ◌∙◌, Bool, true, false, cond, Option, Some, None}
use Rattle.std.specs.Prelude.{◌==◌, ◌&&◌}
use Rattle.gl_attrs.specs.Setting.{resolved_for}
use Rattle.gl_bank.specs.Level.{first_levels, pulled}
use Rattle.gl_bank.specs.declared.levels.Change.{Change}
use Rattle.gl_bank.specs.declared.levels.Levels.{Levels}
use Rattle.gl_base.specs.Bits.{has_bit}
use Rattle.gl_base.specs.Lines.{offsets_of}
use Rattle.gl_base.specs.Positions.{change_at}
use Rattle.gl_base.specs.Rows.{change_first}
use Rattle.gl_base.specs.declared.errno.Errno.{Errno}
use Rattle.gl_base.specs.declared.lines.Lines.{Lines}
use Rattle.gl_base.specs.declared.settings.Resolved.{Resolved}
use Rattle.gl_base.specs.declared.settings.Settings.{Settings}
use Rattle.gl_debounce.specs.Fire.{fires}
use Rattle.gl_debounce.specs.declared.timer.Fired.{Fired}
use Rattle.gl_desc.specs.declared.desc.Desc.{Desc}
use Rattle.gl_uapi.specs.declared.info_changes.Changed.{Changed}
use Rattle.gl_uapi.specs.declared.layout.TheConstants.{CHANGED_CONFIG}
use Rattle.gl_watch.specs.Files.{is_watching, notified}
use Rattle.gl_ring.specs.Waiting.{with_item}
use Rattle.gl_watch.specs.Queue.{appended}
use Rattle.gl_watch.specs.declared.file.ChipFile.{ChipFile}
use Rattle.gl_model.specs.declared.call.Part.{Part}
use Rattle.gl_model.specs.declared.call.Part.TheVariants.{Whole, Ask, Tell}
use Rattle.gl_model.specs.declared.place.Place.{Place}
use Rattle.gl_model.specs.Clock.{clock_refusal, fire, settle, settle_each, tick}
use Rattle.gl_model.specs.Configuring.{configure, configure_from, configured_on, settings_of, with_levels, is_directed, reconfigure_from, set_config, settings_after, with_settings}
use Rattle.gl_model.specs.Edges.{edge, edge_for, is_monitored, raw_edge, raw_edge_for, with_edge}
use Rattle.gl_model.specs.Notify.{change_of, notify, notify_each}
use Rattle.gl_model.specs.OpenFiles.{in_parts, on_request}
use Rattle.gl_model.specs.Outcome.{Outcome, done, refused_or}
use Rattle.gl_model.specs.Places.{kind_at, no_place, with_place}
use Rattle.gl_model.specs.Pulls.{pull_line}
use Rattle.gl_model.specs.Values.{bits_in, drive_from, driven_with, get_values, mask_in, set_values}
use Rattle.gl_model.specs.World.{World, Request, has_number}
use Rattle.gl_model.proofs.Ledger.{Seat, Ledger, descs_of, file_number, ledger, seat}

-- columns

seats_same : (test : Request → Bool) (f : Request → Request) (rows : List Request) → ((x : Request) → seat (f x) ≡ seat x) → map seat (change_first test f rows) ≡ map seat rows
seats_same test f [] h = refl
seats_same test f (x ∷ rows) h = elim (test x) as (λ b. map seat (cond b (f x ∷ rows) (x ∷ change_first test f rows)) ≡ map seat (x ∷ rows)) [
  | true ↦ ap (λ s. s ∷ map seat rows) (h x)
  | false ↦ ap (λ ss. seat x ∷ ss) (seats_same test f rows h)
]

files_same : (test : ChipFile → Bool) (f : ChipFile → ChipFile) (files : List ChipFile) → ((x : ChipFile) → (f x).fd ≡ x.fd) → map file_number (change_first test f files) ≡ map file_number files
files_same test f [] h = refl
files_same test f (x ∷ files) h = elim (test x) as (λ b. map file_number (cond b (f x ∷ files) (x ∷ change_first test f files)) ≡ map file_number (x ∷ files)) [
  | true ↦ ap (λ n. n ∷ map file_number files) (h x)
  | false ↦ ap (λ ns. x.fd ∷ ns) (files_same test f files h)
]

told_number : (place : ℕ) (change : Changed) (x : ChipFile) → (notified place change x).fd ≡ x.fd
told_number place change x = elim ((x.place == place) && is_watching change.info.offset x) as (λ b. (cond b (record x { changes = appended change x.changes }) x).fd ≡ x.fd) [ true ↦ refl | false ↦ refl ]

files_told : (place : ℕ) (change : Changed) (files : List ChipFile) → map file_number (map (notified place change) files) ≡ map file_number files
files_told place change [] = refl
files_told place change (x ∷ files) =
    ap (λ n. n ∷ map file_number (map (notified place change) files)) (told_number place change x)
    ∙ ap (λ ns. x.fd ∷ ns) (files_told place change files)

descs_same : (n : ℕ) (f : Place → Place) (places : List Place) → ((x : Place) → (f x).descs ≡ x.descs) → map descs_of (change_at no_place n f places) ≡ map descs_of places
descs_same n f [] h = refl
descs_same zero f (x ∷ places) h = ap (λ d. d ∷ map descs_of places) (h x)
descs_same (suc n) f (x ∷ places) h = ap (λ ds. x.descs ∷ ds) (descs_same n f places h)

pub descs_changed : (n : ℕ) (f : Place → Place) (g : List Desc → List Desc) (places : List Place) → ((x : Place) → (f x).descs ≡ g x.descs) → map descs_of (change_at no_place n f places) ≡ change_at [] n g (map descs_of places)
descs_changed n f g [] h = refl
descs_changed zero f g (x ∷ places) h = ap (λ d. d ∷ map descs_of places) (h x)
descs_changed (suc n) f g (x ∷ places) h = ap (λ ds. x.descs ∷ ds) (descs_changed n f g places h)

-- worlds of which one column changed

pub rows_changed : (w : World) (test : Request → Bool) (f : Request → Request) → ((x : Request) → seat (f x) ≡ seat x) → ledger (record w { requests = change_first test f w.requests }) ≡ ledger w
rows_changed w test f h =
    let with_seats : List Seat → Ledger = (λ ss. record { seats = ss; files = map file_number w.files; next = w.next; tables = map descs_of w.places }) in
    ap with_seats (seats_same test f w.requests h)

pub files_changed : (w : World) (test : ChipFile → Bool) (f : ChipFile → ChipFile) → ((x : ChipFile) → (f x).fd ≡ x.fd) → ledger (record w { files = change_first test f w.files }) ≡ ledger w
files_changed w test f h =
    let with_files : List ℕ → Ledger = (λ fs. record { seats = map seat w.requests; files = fs; next = w.next; tables = map descs_of w.places }) in
    ap with_files (files_same test f w.files h)

pub place_changed : (w : World) (place : ℕ) (f : Place → Place) → ((x : Place) → (f x).descs ≡ x.descs) → ledger (with_place place f w) ≡ ledger w
place_changed w place f h =
    let with_tables : List (List Desc) → Ledger = (λ ts. record { seats = map seat w.requests; files = map file_number w.files; next = w.next; tables = ts }) in
    ap with_tables (descs_same place f w.places h)

-- what is told and configured, edges

pub unless_same : (r : Option Errno) (w : World) (out : Outcome) → ledger out.world ≡ ledger w → ledger (refused_or r w out).world ≡ ledger w
unless_same None w out h = h
unless_same (Some e) w out h = refl

either : (b : Bool) (v u w : World) → ledger v ≡ ledger w → ledger u ≡ ledger w → ledger (cond b v u) ≡ ledger w
either true v u w h k = h
either false v u w h k = k

edge_seat : (offset : ℕ) (rising : Bool) (timestamp : ℕ) (x : Request) → seat (with_edge offset rising timestamp x) ≡ seat x
edge_seat offset rising timestamp x = elim (is_monitored offset rising x) as (λ b. seat (cond b (record x { past = with_item x.capacity (record { timestamp = timestamp; rising = rising; offset = offset }) x.past }) x) ≡ seat x) [ true ↦ refl | false ↦ refl ]

edge_for_same : (o : Option ℕ) (offset : ℕ) (line : Levels) (up : Bool) (mono : ℕ) (w : World) → ledger (edge_for o offset line up mono w) ≡ ledger w
edge_for_same None offset line up mono w = refl
edge_for_same (Some fd) offset line up mono w = rows_changed w (has_number fd) _ (λ x. edge_seat offset _ _ x)

edge_same : (place offset : ℕ) (up : Bool) (mono : ℕ) (w : World) → ledger (edge place offset up mono w) ≡ ledger w
edge_same place offset up mono w = edge_for_same _ offset _ up mono w

raw_edge_for_same : (o : Option ℕ) (place offset : ℕ) (up : Bool) (w : World) → ledger (raw_edge_for o place offset up w) ≡ ledger w
raw_edge_for_same None place offset up w = refl
raw_edge_for_same (Some fd) place offset up w = either _ _ _ w (edge_same place offset up w.mono w) refl

raw_edge_same : (place offset : ℕ) (o : Option Change) (w : World) → ledger (raw_edge place offset o w) ≡ ledger w
raw_edge_same place offset None w = refl
raw_edge_same place offset (Some change) w = raw_edge_for_same _ place offset change.rose w

pub pull_line_same : (place offset : ℕ) (up : Bool) (w : World) → ledger (pull_line place offset up w) ≡ ledger w
pull_line_same place offset up w =
    raw_edge_same place offset _ (with_place place (λ tables. record tables { bank = change_at first_levels offset (pulled up) tables.bank }) w)
    ∙ place_changed w place (λ tables. record tables { bank = change_at first_levels offset (pulled up) tables.bank }) (λ x. refl)

settle_same : (line : Fired) (w : World) → ledger (settle line w) ≡ ledger w
settle_same line w = either line.changed _ _ w (edge_same line.place line.offset line.level line.deadline _) refl

settle_each_same : (lines : List Fired) (w : World) → ledger (settle_each lines w) ≡ ledger w
settle_each_same [] w = refl
settle_each_same (line ∷ lines) w = settle_each_same lines (settle line w) ∙ settle_same line w

pub tick_same : (mono real : ℕ) (w : World) → ledger (tick mono real w).world ≡ ledger w
tick_same mono real w =
    unless_same (clock_refusal mono real w) w (done (fire (record w { mono = mono; real = real })))
    (settle_each_same (fires mono w.timers) (record w { mono = mono; real = real }))

notify_same : (place offset kind : ℕ) (w : World) → ledger (notify place offset kind w) ≡ ledger w
notify_same place offset kind w =
    let with_files : List ℕ → Ledger = (λ fs. record { seats = map seat w.requests; files = fs; next = w.next; tables = map descs_of w.places }) in
    ap with_files (files_told place (change_of place offset kind w) w.files)

pub notify_each_same : (place : ℕ) (offsets : List ℕ) (kind : ℕ) (w : World) → ledger (notify_each place offsets kind w) ≡ ledger w
notify_each_same place [] kind w = refl
notify_each_same place (offset ∷ offsets) kind w = notify_each_same place offsets kind (notify place offset kind w) ∙ notify_same place offset kind w

levels_same : (place offset : ℕ) (f : Levels → Levels) (w : World) → ledger (with_place place (with_levels offset f) w) ≡ ledger w
levels_same place offset f w = place_changed w place (with_levels offset f) (λ x. refl)

pub configure_same : (place : ℕ) (settings : Settings) (answered : Bool) (offset : ℕ) (w : World) → ledger (configure place settings answered offset w) ≡ ledger w
configure_same place settings answered offset w = levels_same place offset (configured_on (kind_at w place) settings) w

pub configure_from_same : (place : ℕ) (settings : Resolved) (bits i : ℕ) (offsets : List ℕ) (w : World) → ledger (configure_from place settings bits i offsets w) ≡ ledger w
configure_from_same place settings bits i [] w = refl
configure_from_same place settings bits i (offset ∷ offsets) w =
    configure_from_same place settings bits (i + 1) offsets (configure place (settings_of settings i) (has_bit bits i) offset w) ∙ configure_same place (settings_of settings i) (has_bit bits i) offset w

reconfigure_from_same : (place : ℕ) (settings : Resolved) (bits i : ℕ) (offsets : List ℕ) (w : World) → ledger (reconfigure_from place settings bits i offsets w) ≡ ledger w
reconfigure_from_same place settings bits i [] w = refl
reconfigure_from_same place settings bits i (offset ∷ offsets) w =
    let set : World = configure place (settings_of settings i) (has_bit bits i) offset w in
    let next : World = cond (is_directed settings i) (notify place offset CHANGED_CONFIG set) w in
    reconfigure_from_same place settings bits (i + 1) offsets next
    ∙ either (is_directed settings i) _ _ w (notify_same place offset CHANGED_CONFIG set ∙ configure_same place (settings_of settings i) (has_bit bits i) offset w) refl

drive_from_same : (place mask bits i : ℕ) (offsets : List ℕ) (w : World) → ledger (drive_from place mask bits i offsets w) ≡ ledger w
drive_from_same place mask bits i [] w = refl
drive_from_same place mask bits i (offset ∷ offsets) w =
    let next : World = cond (has_bit mask i) (with_place place (with_levels offset (driven_with (has_bit bits i))) w) w in
    drive_from_same place mask bits (i + 1) offsets next ∙ either (has_bit mask i) _ _ w (levels_same place offset (driven_with (has_bit bits i)) w) refl

-- commands that leave it

in_parts_same : (part : Part) (act : ℕ → World → Outcome) (w : World) → ((bits : ℕ) → ledger (act bits w).world ≡ ledger w) → ledger (in_parts part act w).world ≡ ledger w
in_parts_same Whole act w h = refl
in_parts_same Ask act w h = refl
in_parts_same (Tell None) act w h = refl
in_parts_same (Tell (Some bits)) act w h = h bits

pub on_request_same : (act : Lines → Resolved → World → Outcome) (o : Option Request) (w : World) → ((lines : Lines) (settings : Resolved) → ledger (act lines settings w).world ≡ ledger w) → ledger (on_request act o w).world ≡ ledger w
on_request_same act None w h = refl
on_request_same act (Some request) w h = h request.lines request.settings

pub set_config_same : (place fd : ℕ) (bytes : List ℕ) (part : Part) (lines : Lines) (settings : Resolved) (w : World) → ledger (set_config place fd bytes part lines settings w).world ≡ ledger w
set_config_same place fd bytes part lines settings w =
    let after : Resolved = resolved_for bytes lines.count in
    let set : World = record w { requests = change_first (has_number fd) (with_settings (settings_after settings after lines.count)) w.requests } in
    unless_same _ w _ (in_parts_same part _ w (λ bits. reconfigure_from_same place after bits 0 (offsets_of lines) set ∙ rows_changed w (has_number fd) (with_settings (settings_after settings after lines.count)) (λ x. refl)))

pub get_values_same : (place : ℕ) (bytes : List ℕ) (part : Part) (lines : Lines) (settings : Resolved) (w : World) → ledger (get_values place bytes part lines settings w).world ≡ ledger w
get_values_same place bytes part lines settings w = unless_same _ w _ (in_parts_same part _ w (λ bits. refl))

pub set_values_same : (place : ℕ) (bytes : List ℕ) (part : Part) (lines : Lines) (settings : Resolved) (w : World) → ledger (set_values place bytes part lines settings w).world ≡ ledger w
set_values_same place bytes part lines settings w = unless_same _ w _ (in_parts_same part _ w (λ told. drive_from_same place (mask_in bytes) (bits_in bytes) 0 (offsets_of lines) w))
