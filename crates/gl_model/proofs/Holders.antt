-- Each call keeps requests and lines agreeing on who has which line.
use Rattle.std.proofs.Common.{◌≡◌, ◌+◌, ◌<◌, ℕ, zero, suc, List, [], ◌∷◌, ◌++◌, length, map, refl, sym, ap, ◌∙◌, subst, true, false, cond, Option, Some, None, arith}
use Rattle.std.specs.Prelude.{◌/◌, ◌==◌, ◌||◌, Result, Ok, Err, flat_map, is_some, not, replicate, take, nat_eq, nat_le, slice_index, slice_index_or}
use Rattle.std.specs.List.{find, list_any}
use Rattle.std.specs.Option.{option_and_then, option_map}
use Rattle.std.proofs.lemmas.Bool.{true≢false}
use Rattle.std.proofs.lemmas.Bool.Decides.{nat_tests}
use Rattle.std.proofs.lemmas.List.{map-append}
use Rattle.gl_base.specs.Lines.{offsets_of}
use Rattle.gl_base.specs.Positions.{change_at, change_each, first_fault}
use Rattle.gl_base.specs.Refusals.{first_of, when}
use Rattle.gl_base.specs.Rows.{change_first, without_first}
use Rattle.gl_base.specs.declared.errno.Errno.{Errno}
use Rattle.gl_base.specs.declared.errno.Errno.TheVariants.{BadF, Busy}
use Rattle.gl_desc.specs.Desc.{claimed, desc_at, first_desc, freed, hogged, is_free, line_fault, named, settled, stands_earlier}
use Rattle.gl_desc.specs.declared.desc.Desc.{Desc}
use Rattle.gl_desc.specs.declared.desc.LineFault.{LineFault}
use Rattle.gl_desc.specs.declared.desc.LineFault.TheVariants.{BadOffset, Busy as BusyLine}
use Rattle.gl_desc.specs.declared.hog.Hog.{Hog}
use Rattle.gl_hogs.specs.Hogs.{hogged_descs}
use Rattle.gl_irq.specs.Irq.{done as irq_done, first_irq, irq_at}
use Rattle.gl_pins.specs.Pins.{is_held}
use Rattle.gl_registry.specs.Chips.{place_of_word}
use Rattle.gl_simtree.specs.Calls.{live_refusal, read_answer}
use Rattle.gl_simtree.specs.Nodes.{node_at}
use Rattle.gl_simtree.specs.Plans.{planned_hogs, planned_lines, planned_names}
use Rattle.gl_simtree.specs.Rows.{banks_of, with_state}
use Rattle.gl_simtree.specs.declared.row.TreeRow.{TreeRow}
use Rattle.gl_simtree.specs.declared.row.State.TheVariants.{Live as LiveState}
use Rattle.gl_uapi.specs.Command.{command_of, size_of}
use Rattle.gl_uapi.specs.declared.commands.Command.{Command}
use Rattle.gl_uapi.specs.declared.commands.Command.TheVariants.{ChipInfo, LineInfo, Watch, Unwatch, GetLine, SetConfig, GetValues, SetValues}
use Rattle.gl_uapi.specs.declared.layout.TheConstants.{CHANGED_RELEASED, CHANGED_REQUESTED, LINE_EVENT_SIZE}
use Rattle.gl_watch.specs.Files.{is_file, new_file, with_watch, without_changes}
use Rattle.gl_model.specs.declared.call.Call.{Call}
use Rattle.gl_model.specs.declared.call.Call.TheVariants.{Probe, Unplug, MakeDir, RemoveDir, Write, Read, Live, Remove, Tick, Pin, Irq, Pull, Level, Interrupt, OpenChip, Find, Ioctl, ReadEdges, ReadInfo, PollLine, PollChip, Close, Refused as RefusedCall}
use Rattle.gl_model.specs.declared.call.Part.{Part}
use Rattle.gl_model.specs.declared.call.Part.TheVariants.{Whole, Ask, Tell}
use Rattle.gl_model.specs.declared.place.Place.{Place}
use Rattle.gl_model.specs.declared.reply.Reply.TheVariants.{Go}
use Rattle.gl_model.specs.AskedLines.{AskedLines, asked_in, request_fault}
use Rattle.gl_model.specs.Chips.{new_place, places_left}
use Rattle.gl_model.specs.Claiming.{claim, claim_at, claim_by, claim_lines, claim_number, claim_refusal, errno_of, held, line_refusal, new_claim, told_claim, with_descs}
use Rattle.gl_model.specs.Configuring.{configure_each, interrupt_fault, settings_of, set_config}
use Rattle.gl_model.specs.Holders.{taken_by}
use Rattle.gl_model.specs.Ioctl.{act_on, by_number, checked, in_part}
use Rattle.gl_model.specs.OpenFiles.{command_refusal, number_refusal}
use Rattle.gl_model.specs.Opening.{close, close_request, found, is_open, named_at, open_at, open_refusal, searched, with_file, with_lines_freed, without_request}
use Rattle.gl_model.specs.Outcome.{Outcome, done, numbers, replies, refused_or}
use Rattle.gl_model.specs.Pins.{pin_done}
use Rattle.gl_model.specs.Places.{no_place, place_at, with_place}
use Rattle.gl_model.specs.Reading.{read_from}
use Rattle.gl_model.specs.Step.{step}
use Rattle.gl_model.specs.Tree.{gone_live, place_of_bank, read_outcome, with_names}
use Rattle.gl_model.specs.Values.{get_values, set_values}
use Rattle.gl_model.specs.World.{World, Request, has_number, request_at}
use Rattle.gl_model.proofs.Agreeing.{claim_agrees, extended, extended_agrees, file_closed_agrees, gone_agrees, hold_agrees, opened, opened_agrees, seat_held, with_claim, with_hold, without_seat}
use Rattle.gl_model.proofs.Ledger.{Seat, Ledger, Agrees, NobodyHas, descs_of, file_number, holder_in, is_seat, ledger, none_some, seat, some_is}
use Rattle.gl_model.proofs.LedgerSteps.{configure_from_same, descs_changed, files_changed, get_values_same, notify_each_same, on_request_same, place_changed, pull_line_same, rows_changed, set_config_same, set_values_same, tick_same, unless_same}
use Rattle.gl_model.proofs.Phases.{not_false, nothing_first, same_number}
use Rattle.gl_model.proofs.SoundRequests.{fault_when, first_none, first_two, map_none}

abbrev Keeps : World → World → Type 0
Keeps w v = Agrees (ledger w) → Agrees (ledger v)

calm : (w v : World) → ledger v ≡ ledger w → Keeps w v
calm w v e a = subst Agrees (sym e) a

keeps_unless : (r : Option Errno) (w : World) (out : Outcome) → (r ≡ None → Keeps w out.world) → Keeps w (refused_or r w out).world
keeps_unless None w out h = h refl
keeps_unless (Some e) w out h = λ a. a

-- requests and their seats

pub found_seat : (fd : ℕ) (rows : List Request) → find (is_seat fd) (map seat rows) ≡ option_map seat (find (has_number fd) rows)
found_seat fd [] = refl
found_seat fd (x ∷ rows) = elim (x.fd == fd) as (λ b. cond b (Some (seat x)) (find (is_seat fd) (map seat rows)) ≡ option_map seat (cond b (Some x) (find (has_number fd) rows))) [
  | true ↦ refl
  | false ↦ found_seat fd rows
]

found_number : (fd : ℕ) (rows : List Request) (request : Request) → find (has_number fd) rows ≡ Some request → request.fd ≡ fd
found_number fd [] request e = absurd (none_some request e)
found_number fd (x ∷ rows) request e = elim (x.fd == fd) as (λ b. (x.fd == fd) ≡ b → cond b (Some x) (find (has_number fd) rows) ≡ Some request → request.fd ≡ fd) [
  | true ↦ (λ t is. ap (λ (r : Request). r.fd) (sym (some_is x request is)) ∙ same_number x.fd fd t)
  | false ↦ (λ _ later. found_number fd rows request later)
] refl e

-- the request of a number is seated under it
seated : (fd : ℕ) (rows : List Request) (request : Request) → request_at rows fd ≡ Some request → find (is_seat request.fd) (map seat rows) ≡ Some (seat request)
seated fd rows request e =
    ap (λ k. find (is_seat k) (map seat rows)) (found_number fd rows request e) ∙ found_seat fd rows ∙ ap (option_map seat) e

seats_without : (fd : ℕ) (rows : List Request) → map seat (without_first (has_number fd) rows) ≡ without_first (is_seat fd) (map seat rows)
seats_without fd [] = refl
seats_without fd (x ∷ rows) = elim (x.fd == fd) as (λ b. map seat (cond b rows (x ∷ without_first (has_number fd) rows)) ≡ cond b (map seat rows) (seat x ∷ without_first (is_seat fd) (map seat rows))) [
  | true ↦ refl
  | false ↦ ap (λ ss. seat x ∷ ss) (seats_without fd rows)
]

seats_held : (fd : ℕ) (rows : List Request) → map seat (change_first (has_number fd) held rows) ≡ change_first (is_seat fd) seat_held (map seat rows)
seats_held fd [] = refl
seats_held fd (x ∷ rows) = elim (x.fd == fd) as (λ b. map seat (cond b (held x ∷ rows) (x ∷ change_first (has_number fd) held rows)) ≡ cond b (seat_held (seat x) ∷ map seat rows) (seat x ∷ change_first (is_seat fd) seat_held (map seat rows))) [
  | true ↦ refl
  | false ↦ ap (λ ss. seat x ∷ ss) (seats_held fd rows)
]

-- what is in a ledger
abbrev made_of : List Seat → List ℕ → ℕ → List (List Desc) → Ledger
made_of seats files next tables = record { seats = seats; files = files; next = next; tables = tables }

-- requests that go

gone_keeps : (fd : ℕ) (request : Request) (f : Place → Place) (w : World) → request_at w.requests fd ≡ Some request
    → ((x : Place) → (f x).descs ≡ change_each first_desc (offsets_of request.lines) freed x.descs)
    → Keeps w (with_place request.place f (record w { requests = without_first (has_number request.fd) w.requests }))
gone_keeps fd request f w e descs a =
    let v : World = with_place request.place f (record w { requests = without_first (has_number request.fd) w.requests }) in
    let is : ledger v ≡ without_seat (seat request) (ledger w) =
    ap (λ ss. made_of ss (map file_number w.files) w.next (map descs_of v.places)) (seats_without request.fd w.requests)
    ∙ ap (λ ts. made_of (without_first (is_seat request.fd) (map seat w.requests)) (map file_number w.files) w.next ts)
    (descs_changed request.place f (change_each first_desc (offsets_of request.lines) freed) w.places descs) in
    subst Agrees (sym is) (gone_agrees (seat request) (ledger w) (seated fd w.requests request e) a)

close_request_keeps : (fd : ℕ) (o : Option Request) (w : World) → request_at w.requests fd ≡ o → Keeps w (close_request o w)
close_request_keeps fd None w e = λ a. a
close_request_keeps fd (Some request) w e = λ a.
    calm (without_request request w) (close_request (Some request) w) (notify_each_same request.place (offsets_of request.lines) CHANGED_RELEASED (without_request request w))
    (gone_keeps fd request (with_lines_freed (offsets_of request.lines)) w e (λ x. refl) a)

close_keeps : (fd : ℕ) (w : World) → Keeps w (close fd w).world
close_keeps fd w =
    let without : World = record w { files = without_first (is_file fd) w.files } in
    keeps_unless (when (not (is_open fd w)) BadF) w (done (close_request (request_at w.requests fd) without))
    (λ _ a. close_request_keeps fd (request_at w.requests fd) without refl (file_closed_agrees (ledger w) w.files (is_file fd) refl a))

-- the tell of GET_LINE

claim_is : (place : ℕ) (o : Option Request) (request : Request) → claim_at place o ≡ Some request → o ≡ Some request
claim_is place None request e = absurd (none_some request e)
claim_is place (Some other) request e = elim (other.place == place) as (λ b. cond b (Some other) None ≡ Some request → Some other ≡ Some request) [
  | true ↦ (λ is. is)
  | false ↦ (λ no. absurd (none_some request no))
] e

number_is : (rows : List Request) (o : Option ℕ) (request : Request) → option_and_then (request_at rows) o ≡ Some request → (fd : ℕ) × (request_at rows fd ≡ Some request)
number_is rows None request e = absurd (none_some request e)
number_is rows (Some fd) request e = (fd, e)

told_claim_keeps : (place actor : ℕ) (answer : Option ℕ) (len : ℕ) (bytes : List ℕ) (o : Option Request) (w : World) → claim_at place (claim_by w.requests actor) ≡ o → Keeps w (told_claim answer len bytes o w).world
told_claim_keeps place actor answer len bytes None w e = λ a. a
told_claim_keeps place actor None len bytes (Some request) w e = λ a.
    let at = number_is w.requests (claim_number w.requests actor) request (claim_is place (claim_by w.requests actor) request e) in
    gone_keeps at.0 request (with_descs (offsets_of request.lines) freed) w at.1 (λ x. refl) a
told_claim_keeps place actor (Some bits) len bytes (Some request) w e = λ a.
    let at = number_is w.requests (claim_number w.requests actor) request (claim_is place (claim_by w.requests actor) request e) in
    let offsets : List ℕ = offsets_of request.lines in
    let lines_held : World = with_place request.place (with_descs offsets settled) (record w { requests = change_first (has_number request.fd) held w.requests }) in
    let set : World = configure_each request.place request.lines request.settings bits lines_held in
    let told : ledger (told_claim (Some bits) len bytes (Some request) w).world ≡ ledger lines_held =
    notify_each_same request.place offsets CHANGED_REQUESTED set ∙ configure_from_same request.place request.settings bits 0 offsets lines_held in
    let is : ledger lines_held ≡ with_hold (seat request) (ledger w) =
    ap (λ ss. made_of ss (map file_number w.files) w.next (map descs_of lines_held.places)) (seats_held request.fd w.requests)
    ∙ ap (λ ts. made_of (change_first (is_seat request.fd) seat_held (map seat w.requests)) (map file_number w.files) w.next ts)
    (descs_changed request.place (with_descs offsets settled) (change_each first_desc offsets settled) w.places (λ x. refl)) in
    subst Agrees (sym (told ∙ is)) (hold_agrees (seat request) (ledger w) (seated at.0 w.requests request at.1) a)

-- the ask of GET_LINE

pub read_descs : (places : List Place) (place : ℕ) → slice_index_or (map descs_of places) place [] ≡ (slice_index_or places place no_place).descs
read_descs [] place = refl
read_descs (x ∷ places) zero = refl
read_descs (x ∷ places) (suc place) = read_descs places place

-- a number among the first of some stands at a place
stands_at : (o : ℕ) (xs : List ℕ) (count : ℕ) → list_any (nat_eq o) (take count xs) ≡ true → (i : ℕ) × (i < count) × (slice_index xs i ≡ o)
stands_at o [] zero e = absurd (true≢false (sym e))
stands_at o [] (suc count) e = absurd (true≢false (sym e))
stands_at o (x ∷ xs) zero e = absurd (true≢false (sym e))
stands_at o (x ∷ xs) (suc count) e = elim (nat_eq o x) as (λ b. nat_eq o x ≡ b → (b || list_any (nat_eq o) (take count xs)) ≡ true → (i : ℕ) × (i < suc count) × (slice_index (x ∷ xs) i ≡ o)) [
  | true ↦ (λ t _. (0, omega arith, sym (same_number o x t)))
  | false ↦ (λ _ later. let at = stands_at o xs count later in let lt : at.0 < count = at.1 in (suc at.0, omega arith, at.2))
] refl e

line_free : (place : Place) (asked : AskedLines) (i : ℕ) → line_refusal place asked i ≡ None
    → (slice_index asked.lines.offsets i < length place.descs) × (is_free (desc_at place.descs (slice_index asked.lines.offsets i)).holder ≡ true)
line_free place asked i e =
    let offset : ℕ = slice_index asked.lines.offsets i in
    let fault : Option LineFault = line_fault place.descs asked.lines.offsets i in
    let one = nothing_first (option_map errno_of fault) (first_of (when (is_held place.pins offset) Busy ∷ interrupt_fault (settings_of asked.settings i) (irq_at place.irqs offset) ∷ [])) e in
    let none : fault ≡ None = map_none fault one.0 in
    let a = when (nat_le (length place.descs) offset) BadOffset in
    let b = when (not (is_free (desc_at place.descs offset).holder)) BusyLine in
    let c = when (stands_earlier asked.lines.offsets i) BusyLine in
    let two = first_two a (first_of (b ∷ c ∷ [])) none in
    let three = first_two b (first_of (c ∷ [])) two.1 in
    let there : nat_le (length place.descs) offset ≡ false = fault_when (nat_le (length place.descs) offset) BadOffset two.0 in
    (grind (arith, nat_tests), not_false (is_free (desc_at place.descs offset).holder) (fault_when (not (is_free (desc_at place.descs offset).holder)) BusyLine three.0))

pub lines_free : (place actor : ℕ) (asked : AskedLines) (w : World) → claim_refusal place actor asked w ≡ None → (offset : ℕ) → list_any (nat_eq offset) (offsets_of asked.lines) ≡ true
    → (offset < length (slice_index_or (map descs_of w.places) place [])) × (is_free (holder_in (map descs_of w.places) place offset) ≡ true)
lines_free place actor asked w e offset any =
    let busy = when (is_some (claim_number w.requests actor)) Busy in
    let lines = first_fault (line_refusal (place_at w place) asked) 0 asked.lines.count in
    let one = nothing_first (number_refusal w) (first_of (busy ∷ lines ∷ [])) e in
    let two = nothing_first busy (first_of (lines ∷ [])) one.1 in
    let three = nothing_first lines None two.1 in
    let at = stands_at offset asked.lines.offsets asked.lines.count any in
    let z : 0 + at.0 ≡ at.0 = omega arith in
    let none : line_refusal (place_at w place) asked at.0 ≡ None =
    ap (line_refusal (place_at w place) asked) (sym z) ∙ first_none (line_refusal (place_at w place) asked) 0 asked.lines.count at.0 three.0 at.1 in
    let free = line_free (place_at w place) asked at.0 none in
    let here : (offset < length (place_at w place).descs) × (is_free (desc_at (place_at w place).descs offset).holder ≡ true) =
    subst (λ o. (o < length (place_at w place).descs) × (is_free (desc_at (place_at w place).descs o).holder ≡ true)) at.2 free in
    subst (λ lines. (offset < length lines) × (is_free (desc_at lines offset).holder ≡ true)) (sym (read_descs w.places place)) here

claim_keeps : (place actor : ℕ) (asked : AskedLines) (w : World) → claim_refusal place actor asked w ≡ None → Keeps w (claim_lines place actor asked w)
claim_keeps place actor asked w e a =
    let offsets : List ℕ = offsets_of asked.lines in
    let new : Seat = seat (new_claim w.next place actor asked) in
    let is : ledger (claim_lines place actor asked w) ≡ with_claim asked.consumer new (ledger w) =
    ap (λ ss. made_of ss (map file_number w.files) (w.next + 1) (map descs_of (claim_lines place actor asked w).places)) (map-append seat w.requests (new_claim w.next place actor asked ∷ []))
    ∙ ap (λ ts. made_of (map seat w.requests ++ new ∷ []) (map file_number w.files) (w.next + 1) ts)
    (descs_changed place (with_descs offsets (claimed w.next asked.consumer)) (change_each first_desc offsets (claimed w.next asked.consumer)) w.places (λ x. refl)) in
    subst Agrees (sym is) (claim_agrees asked.consumer new (ledger w) refl refl (lines_free place actor asked w e) a)

-- commands

act_on_keeps : (actor place fd : ℕ) (command : Command) (bytes : List ℕ) (part : Part) (w : World) → Keeps w (act_on actor place fd command bytes part w).world
act_on_keeps actor place fd ChipInfo bytes part w = λ a. a
act_on_keeps actor place fd LineInfo bytes part w = calm w (act_on actor place fd LineInfo bytes part w).world (unless_same _ w _ refl)
act_on_keeps actor place fd Watch bytes part w = calm w (act_on actor place fd Watch bytes part w).world (unless_same _ w _ (files_changed w (is_file fd) (with_watch _ true) (λ x. refl)))
act_on_keeps actor place fd Unwatch bytes part w = calm w (act_on actor place fd Unwatch bytes part w).world (unless_same _ w _ (files_changed w (is_file fd) (with_watch _ false) (λ x. refl)))
act_on_keeps actor place fd GetLine bytes part w =
    keeps_unless (request_fault bytes) w (claim place actor (asked_in bytes) w)
    (λ _. keeps_unless (claim_refusal place actor (asked_in bytes) w) w (replies (Go w.next) (claim_lines place actor (asked_in bytes) w)) (claim_keeps place actor (asked_in bytes) w))
act_on_keeps actor place fd SetConfig bytes part w =
    calm w (act_on actor place fd SetConfig bytes part w).world (on_request_same (set_config place fd bytes part) (request_at w.requests fd) w (λ lines settings. set_config_same place fd bytes part lines settings w))
act_on_keeps actor place fd GetValues bytes part w =
    calm w (act_on actor place fd GetValues bytes part w).world (on_request_same (get_values place bytes part) (request_at w.requests fd) w (λ lines settings. get_values_same place bytes part lines settings w))
act_on_keeps actor place fd SetValues bytes part w =
    calm w (act_on actor place fd SetValues bytes part w).world (on_request_same (set_values place bytes part) (request_at w.requests fd) w (λ lines settings. set_values_same place bytes part lines settings w))

checked_keeps : (actor place fd len : ℕ) (command : Command) (bytes : List ℕ) (part : Part) (w : World) → Keeps w (checked actor place fd len command bytes part w).world
checked_keeps actor place fd len command bytes part w =
    keeps_unless (command_refusal place fd len command part w) w (act_on actor place fd command (take (size_of command) bytes) part w)
    (λ _. act_on_keeps actor place fd command (take (size_of command) bytes) part w)

in_part_keeps : (actor place fd len : ℕ) (command : Command) (bytes : List ℕ) (part : Part) (w : World) → Keeps w (in_part actor place fd len command bytes part w).world
in_part_keeps actor place fd len ChipInfo bytes part w = checked_keeps actor place fd len ChipInfo bytes part w
in_part_keeps actor place fd len LineInfo bytes part w = checked_keeps actor place fd len LineInfo bytes part w
in_part_keeps actor place fd len Watch bytes part w = checked_keeps actor place fd len Watch bytes part w
in_part_keeps actor place fd len Unwatch bytes part w = checked_keeps actor place fd len Unwatch bytes part w
in_part_keeps actor place fd len GetLine bytes Whole w = checked_keeps actor place fd len GetLine bytes Whole w
in_part_keeps actor place fd len GetLine bytes Ask w = checked_keeps actor place fd len GetLine bytes Ask w
in_part_keeps actor place fd len GetLine bytes (Tell answer) w = told_claim_keeps place actor answer len bytes (claim_at place (claim_by w.requests actor)) w refl
in_part_keeps actor place fd len SetConfig bytes part w = checked_keeps actor place fd len SetConfig bytes part w
in_part_keeps actor place fd len GetValues bytes part w = checked_keeps actor place fd len GetValues bytes part w
in_part_keeps actor place fd len SetValues bytes part w = checked_keeps actor place fd len SetValues bytes part w

by_number_keeps : (actor place fd len : ℕ) (command : Option Command) (bytes : List ℕ) (part : Part) (w : World) → Keeps w (by_number actor place fd len command bytes part w).world
by_number_keeps actor place fd len None bytes part w = λ a. a
by_number_keeps actor place fd len (Some command) bytes part w = in_part_keeps actor place fd len command bytes part w

-- new chips

abbrev NobodyIn : List Desc → Type 0
NobodyIn lines = (offset : ℕ) → taken_by (desc_at lines offset).holder ≡ None

nobody_at_first : (n : ℕ) → NobodyIn (replicate n first_desc)
nobody_at_first zero offset = refl
nobody_at_first (suc n) zero = refl
nobody_at_first (suc n) (suc offset) = nobody_at_first n offset

nobody_changed : (f : Desc → Desc) → ((x : Desc) → taken_by x.holder ≡ None → taken_by (f x).holder ≡ None) → (n : ℕ) (lines : List Desc) → NobodyIn lines → NobodyIn (change_at first_desc n f lines)
nobody_changed f h n [] nobody offset = nobody offset
nobody_changed f h zero (x ∷ lines) nobody zero = h x (nobody 0)
nobody_changed f h zero (x ∷ lines) nobody (suc offset) = nobody (suc offset)
nobody_changed f h (suc n) (x ∷ lines) nobody zero = nobody 0
nobody_changed f h (suc n) (x ∷ lines) nobody (suc offset) = nobody_changed f h n lines (λ k. nobody (suc k)) offset

nobody_named : (names : List (ℕ × List ℕ)) (lines : List Desc) → NobodyIn lines → NobodyIn (with_names names lines)
nobody_named [] lines nobody = nobody
nobody_named (name ∷ names) lines nobody = nobody_named names (change_at first_desc name.0 (named name.1) lines) (nobody_changed (named name.1) (λ x h. h) name.0 lines nobody)

nobody_hogged : (hogs : List Hog) (lines : List Desc) → NobodyIn lines → NobodyIn (hogged_descs hogs lines)
nobody_hogged [] lines nobody = nobody
nobody_hogged (hog ∷ hogs) lines nobody = nobody_hogged hogs (change_at first_desc hog.offset (hogged hog.name) lines) (nobody_changed (hogged hog.name) (λ x h. refl) hog.offset lines nobody)

nobody_in_banks : (tree banks : List TreeRow) → NobodyHas (map descs_of (map (place_of_bank tree) banks))
nobody_in_banks tree [] place offset = refl
nobody_in_banks tree (bank ∷ banks) zero offset =
    let lines : List Desc = replicate (planned_lines (Some bank)) first_desc in
    nobody_hogged (planned_hogs (Some bank) tree) (with_names (planned_names (Some bank) tree) lines)
    (nobody_named (planned_names (Some bank) tree) lines (nobody_at_first (planned_lines (Some bank)))) offset
nobody_in_banks tree (bank ∷ banks) (suc place) offset = nobody_in_banks tree banks place offset

nobody_on_new : (lines : ℕ) → NobodyHas (map descs_of (new_place lines ∷ []))
nobody_on_new lines zero offset = nobody_at_first lines offset
nobody_on_new lines (suc place) offset = refl

more_places_keep : (more : List Place) (w : World) → NobodyHas (map descs_of more) → Keeps w (record w { places = w.places ++ more })
more_places_keep more w nobody a =
    let is : ledger (record w { places = w.places ++ more }) ≡ extended (map descs_of more) (ledger w) =
    ap (λ ts. made_of (map seat w.requests) (map file_number w.files) w.next ts) (map-append descs_of w.places more) in
    subst Agrees (sym is) (extended_agrees (map descs_of more) (ledger w) nobody a)

live_keeps : (device : List ℕ) (w : World) → Keeps w (gone_live device w).world
live_keeps device w =
    let tree : List TreeRow = with_state device (LiveState (length w.chips)) w.tree in
    more_places_keep (map (place_of_bank tree) (banks_of device w.tree)) w (nobody_in_banks tree (banks_of device w.tree))

-- the other calls

open_at_keeps : (o : Option ℕ) (w : World) → Keeps w (open_at o w).world
open_at_keeps None w = λ a. a
open_at_keeps (Some place) w = keeps_unless (open_refusal place w) w (numbers w.next (with_file place w)) (λ _ a.
    let is : ledger (with_file place w) ≡ opened (ledger w) = ap (λ fs. made_of (map seat w.requests) fs (w.next + 1) (map descs_of w.places)) (map-append file_number w.files (new_file w.next place [] ∷ [])) in
    subst Agrees (sym is) (opened_agrees (ledger w) a))

found_same : (lines : List (ℕ × ℕ)) (w : World) → ledger (found lines w).world ≡ ledger w
found_same [] w = refl
found_same (line ∷ lines) w = refl

read_same : (r : Result (List ℕ) Errno) (w : World) → ledger (read_outcome r w).world ≡ ledger w
read_same (Ok text) w = refl
read_same (Err errno) w = refl

quiet : (w : World) (actor : ℕ) (call : Call) → ledger (step w actor call).world ≡ ledger w → Keeps w (step w actor call).world
quiet w actor call e = calm w (step w actor call).world e

pub keeps : (w : World) (actor : ℕ) (call : Call) → Keeps w (step w actor call).world
keeps w actor (Probe label lines kind) = keeps_unless _ w _ (λ _. more_places_keep (new_place lines ∷ []) w (nobody_on_new lines))
keeps w actor (Unplug place false) = quiet w actor (Unplug place false) (unless_same _ w _ refl)
keeps w actor (Unplug place true) = quiet w actor (Unplug place true) (unless_same _ w _ refl)
keeps w actor (MakeDir path) = quiet w actor (MakeDir path) (unless_same _ w _ refl)
keeps w actor (RemoveDir path) = quiet w actor (RemoveDir path) (unless_same _ w _ refl)
keeps w actor (Write path value) = quiet w actor (Write path value) (unless_same _ w _ refl)
keeps w actor (Read path) = quiet w actor (Read path) (read_same (read_answer (node_at path) w.tree) w)
keeps w actor (Live device) = keeps_unless (live_refusal device (places_left w) w.tree) w (gone_live device w) (λ _. live_keeps device w)
keeps w actor (Remove device false) = quiet w actor (Remove device false) (unless_same _ w _ refl)
keeps w actor (Remove device true) = quiet w actor (Remove device true) (unless_same _ w _ refl)
keeps w actor (Tick mono real) = quiet w actor (Tick mono real) (tick_same mono real w)
keeps w actor (Pin place what) = quiet w actor (Pin place what) (unless_same _ w _ (place_changed w place (λ tables. record tables { pins = pin_done what tables.pins }) (λ x. refl)))
keeps w actor (Irq place offset what) = quiet w actor (Irq place offset what) (unless_same _ w _ (place_changed w place (λ tables. record tables { irqs = change_at first_irq offset (irq_done what) tables.irqs }) (λ x. refl)))
keeps w actor (Pull place offset up) = quiet w actor (Pull place offset up) (unless_same _ w _ (pull_line_same place offset up w))
keeps w actor (Level place offset pull) = quiet w actor (Level place offset pull) (unless_same _ w _ refl)
keeps w actor (Interrupt place offset up) = quiet w actor (Interrupt place offset up) (unless_same _ w _ (pull_line_same place offset up w))
keeps w actor (OpenChip word) = open_at_keeps (place_of_word w.chips word) w
keeps w actor (Find place name) = quiet w actor (Find place name) (found_same (flat_map (named_at name w) (searched place w)) w)
keeps w actor (Ioctl place fd cmd len bytes part) = by_number_keeps actor place fd len (command_of cmd) bytes part w
keeps w actor (ReadEdges place fd len) = quiet w actor (ReadEdges place fd len) (unless_same _ w _ (rows_changed w (has_number fd) (read_from (len / LINE_EVENT_SIZE)) (λ x. refl)))
keeps w actor (ReadInfo place fd len) = quiet w actor (ReadInfo place fd len) (unless_same _ w _ (files_changed w (is_file fd) (without_changes _) (λ x. refl)))
keeps w actor (PollLine place fd) = quiet w actor (PollLine place fd) (unless_same _ w _ refl)
keeps w actor (PollChip place fd) = quiet w actor (PollChip place fd) (unless_same _ w _ refl)
keeps w actor (Close fd) = close_keeps fd w
keeps w actor (RefusedCall place poll) = λ a. a
