-- A new chip takes a place at which no request is.
use Rattle.std.proofs.Common.{◌≡◌, ◌+◌, ◌<◌, ◌≤◌, ℕ, zero, suc, List, [], ◌∷◌, ◌++◌, length, map, take, Bool, true, false, Option, Some, None, inl, inr, refl, sym, ap, ◌∙◌, subst, arith}
use Rattle.std.specs.Prelude.{◌||◌, ◌==◌, if◌then◌else◌, nat_eq, nat_le, nat_lt, not, cond, flat_map, slice_index_or, Result, Ok, Err}
use Rattle.std.specs.List.{list_any}
use Rattle.std.proofs.lemmas.Bool.{cases_lt}
use Rattle.std.proofs.lemmas.Bool.Decides.{nat_tests}
use Rattle.gl_attrs.specs.ConfigFault.{config_fault}
use Rattle.std.proofs.lemmas.List.{length-set}
use Rattle.gl_base.specs.Lines.{offsets_of}
use Rattle.gl_base.specs.Refusals.{first_of, when}
use Rattle.gl_base.specs.Rows.{Each, change_first, without_first}
use Rattle.gl_base.specs.declared.errno.Errno.{Errno}
use Rattle.gl_base.specs.declared.errno.Errno.TheVariants.{Inval, NoSpc}
use Rattle.gl_base.specs.declared.lines.Lines.{Lines}
use Rattle.gl_base.specs.declared.settings.Resolved.{Resolved}
use Rattle.gl_base.specs.declared.limits.TheConstants.{LINES_PER_REQUEST, PLACES}
use Rattle.gl_uapi.specs.Command.{command_of, size_of}
use Rattle.gl_uapi.specs.Fields.{is_zero_at}
use Rattle.gl_uapi.specs.declared.commands.Command.{Command}
use Rattle.gl_uapi.specs.declared.commands.Command.TheVariants.{ChipInfo, LineInfo, Watch, Unwatch, GetLine, SetConfig, GetValues, SetValues}
use Rattle.gl_uapi.specs.declared.layout.TheConstants.{CHANGED_RELEASED, CHANGED_REQUESTED, REQUEST_PADDING, REQUEST_PADDING_SIZE}
use Rattle.gl_world.specs.History.{fold_from}
use Rattle.gl_world.specs.declared.history.Entry.{Entry}
use Rattle.gl_model.proofs.Boards.{board, close_request-board, found-board, ioctl-board, keeps, open_at-board, raw_edge-board, read_outcome-board, tick-board}
use Rattle.gl_model.proofs.Columns.{length-change_where, read_past}
use Rattle.gl_model.proofs.Holders.{lines_free}
use Rattle.gl_model.proofs.Ledger.{Ledger, descs_of, equals_itself, ledger}
use Rattle.gl_model.proofs.LedgerSteps.{configure_from_same, get_values_same, notify_each_same, on_request_same, pull_line_same, set_config_same, set_values_same, tick_same}
use Rattle.gl_model.proofs.MachineLaws.{always}
use Rattle.gl_model.proofs.Phases.{nothing_first, nothing_when}
use Rattle.gl_model.proofs.Requests.{world_keeps}
use Rattle.gl_model.proofs.SoundRequests.{length-table_from, or_false}
use Rattle.gl_model.proofs.Soundness.{length_added, length_mapped}
use Rattle.gl_model.specs.AskedLines.{asked_in, config_of, header_fault, num_lines, offset_asked, request_fault}
use Rattle.gl_model.specs.Chips.{new_place}
use Rattle.gl_model.specs.Claiming.{claim, claim_at, claim_by, claim_lines, claim_refusal, held, new_claim, told_claim}
use Rattle.gl_model.specs.Configuring.{configure_each, set_config}
use Rattle.gl_model.specs.Edges.{is_monitored, with_edge}
use Rattle.gl_model.specs.Notify.{notify_each}
use Rattle.gl_model.specs.Ioctl.{act_on, by_number, checked, in_part}
use Rattle.gl_model.specs.Machine.{machine, world_of}
use Rattle.gl_model.specs.OpenFiles.{command_refusal}
use Rattle.gl_model.specs.Opening.{close_request, found, named_at, open_at, searched, without_request}
use Rattle.gl_model.specs.Outcome.{Outcome, done, numbers, refused_or, replies}
use Rattle.gl_model.specs.Pulls.{pull_line}
use Rattle.gl_model.specs.Reading.{read_from}
use Rattle.gl_model.specs.Removal.{end_at, is_removing_of, is_up_of, remove_begun, remove_ended, unplug_begun}
use Rattle.gl_model.specs.Step.{step}
use Rattle.gl_model.specs.Tree.{chip_of_bank, gone_live, place_of_bank, read_outcome}
use Rattle.gl_model.specs.Values.{get_values, set_values}
use Rattle.gl_model.specs.World.{World, Request, has_number, opening, request_at}
use Rattle.gl_model.specs.declared.call.Call.{Call}
use Rattle.gl_model.specs.declared.call.Call.TheVariants.{Probe, Unplug, MakeDir, RemoveDir, Write, Read, Live, Remove, Tick, Pin, Irq, Pull, Level, Interrupt, OpenChip, Find, Ioctl, ReadEdges, ReadInfo, PollLine, PollChip, Close, Refused as RefusedCall}
use Rattle.gl_model.specs.declared.call.Part.{Part}
use Rattle.gl_model.specs.declared.call.Part.TheVariants.{Whole, Ask, Tell}
use Rattle.gl_model.specs.declared.gift.Gift.{Gift}
use Rattle.gl_model.specs.declared.reply.Reply.{Reply}
use Rattle.gl_model.specs.declared.reply.Reply.TheVariants.{Go, Number}
use Rattle.gl_model.specs.NewPlaces.{ProbeTakesFreePlace, ProbesTakeFreePlaces}

-- there are tables for each chip, and each request, be it a claim or open, is at the place of a chip that was made
pub record HasRequestsAtChips (w : World) : Type 0 where
  pub tables : length w.places ≡ length w.chips
  pub requests : Each (λ (request : Request). request.place < length w.chips) w.requests

-- as many tables of lines as before

abbrev AsMany : World → World → Type 0
AsMany w v = length v.places ≡ length w.places

by_ledger : (w v : World) → ledger v ≡ ledger w → AsMany w v
by_ledger w v e = sym (length_mapped descs_of v.places) ∙ (ap (λ (l : Ledger). length l.tables) e ∙ length_mapped descs_of w.places)

as_many_unless : (r : Option Errno) (w : World) (out : Outcome) → AsMany w out.world → AsMany w (refused_or r w out).world
as_many_unless None w out h = h
as_many_unless (Some e) w out h = refl

held_as_many : (w v : World) (place bits : ℕ) (lines : Lines) (settings : Resolved) → AsMany w v → AsMany w (notify_each place (offsets_of lines) CHANGED_REQUESTED (configure_each place lines settings bits v))
held_as_many w v place bits lines settings same =
    by_ledger v (notify_each place (offsets_of lines) CHANGED_REQUESTED (configure_each place lines settings bits v))
    (notify_each_same place (offsets_of lines) CHANGED_REQUESTED (configure_each place lines settings bits v) ∙ configure_from_same place settings bits 0 (offsets_of lines) v)
    ∙ same

told_as_many : (answer : Option ℕ) (len : ℕ) (bytes : List ℕ) (o : Option Request) (w : World) → AsMany w (told_claim answer len bytes o w).world
told_as_many answer len bytes None w = refl
told_as_many None len bytes (Some request) w = length-set w.places request.place _
told_as_many (Some bits) len bytes (Some request) w = held_as_many w _ request.place bits request.lines request.settings (length-set w.places request.place _)

closed_as_many : (o : Option Request) (w : World) → AsMany w (close_request o w)
closed_as_many None w = refl
closed_as_many (Some request) w =
    by_ledger (without_request request w) (close_request (Some request) w) (notify_each_same request.place (offsets_of request.lines) CHANGED_RELEASED (without_request request w))
    ∙ length-set w.places request.place _

act_on_as_many : (actor place fd : ℕ) (command : Command) (bytes : List ℕ) (part : Part) (w : World) → AsMany w (act_on actor place fd command bytes part w).world
act_on_as_many actor place fd ChipInfo bytes part w = refl
act_on_as_many actor place fd LineInfo bytes part w = as_many_unless _ w _ refl
act_on_as_many actor place fd Watch bytes part w = as_many_unless _ w _ refl
act_on_as_many actor place fd Unwatch bytes part w = as_many_unless _ w _ refl
act_on_as_many actor place fd GetLine bytes part w =
    as_many_unless (request_fault bytes) w (claim place actor (asked_in bytes) w)
    (as_many_unless (claim_refusal place actor (asked_in bytes) w) w (replies (Go w.next) (claim_lines place actor (asked_in bytes) w)) (length-set w.places place _))
act_on_as_many actor place fd SetConfig bytes part w =
    by_ledger w (act_on actor place fd SetConfig bytes part w).world (on_request_same (set_config place fd bytes part) (request_at w.requests fd) w (λ lines settings. set_config_same place fd bytes part lines settings w))
act_on_as_many actor place fd GetValues bytes part w =
    by_ledger w (act_on actor place fd GetValues bytes part w).world (on_request_same (get_values place bytes part) (request_at w.requests fd) w (λ lines settings. get_values_same place bytes part lines settings w))
act_on_as_many actor place fd SetValues bytes part w =
    by_ledger w (act_on actor place fd SetValues bytes part w).world (on_request_same (set_values place bytes part) (request_at w.requests fd) w (λ lines settings. set_values_same place bytes part lines settings w))

checked_as_many : (actor place fd len : ℕ) (command : Command) (bytes : List ℕ) (part : Part) (w : World) → AsMany w (checked actor place fd len command bytes part w).world
checked_as_many actor place fd len command bytes part w =
    as_many_unless (command_refusal place fd len command part w) w (act_on actor place fd command (take (size_of command) bytes) part w) (act_on_as_many actor place fd command (take (size_of command) bytes) part w)

in_part_as_many : (actor place fd len : ℕ) (command : Command) (bytes : List ℕ) (part : Part) (w : World) → AsMany w (in_part actor place fd len command bytes part w).world
in_part_as_many actor place fd len ChipInfo bytes part w = checked_as_many actor place fd len ChipInfo bytes part w
in_part_as_many actor place fd len LineInfo bytes part w = checked_as_many actor place fd len LineInfo bytes part w
in_part_as_many actor place fd len Watch bytes part w = checked_as_many actor place fd len Watch bytes part w
in_part_as_many actor place fd len Unwatch bytes part w = checked_as_many actor place fd len Unwatch bytes part w
in_part_as_many actor place fd len GetLine bytes Whole w = checked_as_many actor place fd len GetLine bytes Whole w
in_part_as_many actor place fd len GetLine bytes Ask w = checked_as_many actor place fd len GetLine bytes Ask w
in_part_as_many actor place fd len GetLine bytes (Tell answer) w = told_as_many answer len bytes (claim_at place (claim_by w.requests actor)) w
in_part_as_many actor place fd len SetConfig bytes part w = checked_as_many actor place fd len SetConfig bytes part w
in_part_as_many actor place fd len GetValues bytes part w = checked_as_many actor place fd len GetValues bytes part w
in_part_as_many actor place fd len SetValues bytes part w = checked_as_many actor place fd len SetValues bytes part w

by_number_as_many : (actor place fd len : ℕ) (command : Option Command) (bytes : List ℕ) (part : Part) (w : World) → AsMany w (by_number actor place fd len command bytes part w).world
by_number_as_many actor place fd len None bytes part w = refl
by_number_as_many actor place fd len (Some command) bytes part w = in_part_as_many actor place fd len command bytes part w

opened_as_many : (o : Option ℕ) (w : World) → AsMany w (open_at o w).world
opened_as_many None w = refl
opened_as_many (Some place) w = as_many_unless _ w _ refl

found_as_many : (lines : List (ℕ × ℕ)) (w : World) → AsMany w (found lines w).world
found_as_many [] w = refl
found_as_many (line ∷ lines) w = refl

read_as_many : (r : Result (List ℕ) Errno) (w : World) → AsMany w (read_outcome r w).world
read_as_many (Ok text) w = refl
read_as_many (Err errno) w = refl

-- so many chips more, and as many tables more
pub record Wider (w v : World) : Type 0 where
  pub more : ℕ
  pub chips : length v.chips ≡ length w.chips + more
  pub tables : length v.places ≡ length w.places + more

as_wide : (w v : World) → length v.chips ≡ length w.chips → AsMany w v → Wider w v
as_wide w v chips tables = record { more = 0; chips = omega (arith, chips); tables = omega (arith, tables) }

by_board : (w v : World) → board v ≡ board w → AsMany w v → Wider w v
by_board w v e tables = as_wide w v (ap (λ b. length b.0) e) tables

wider_unless : (r : Option Errno) (w : World) (out : Outcome) → Wider w out.world → Wider w (refused_or r w out).world
wider_unless None w out h = h
wider_unless (Some e) w out h = as_wide w w refl refl

more_rows : (w v : World) (n : ℕ) → length v.chips ≡ length w.chips + n → length v.places ≡ length w.places + n → Wider w v
more_rows w v n chips tables = record { more = n; chips = chips; tables = tables }

live_wider : (device : List ℕ) (w : World) → Wider w (gone_live device w).world
live_wider device w = more_rows w (gone_live device w).world _
    (length_added w.chips _ ∙ ap (λ n. length w.chips + n) (length_mapped chip_of_bank _))
    (length_added w.places _ ∙ ap (λ n. length w.places + n) (length_mapped (place_of_bank _) _))

wider : (w : World) (actor : ℕ) (call : Call) → Wider w (step w actor call).world
wider w actor (Probe label lines kind) = wider_unless _ w _ (more_rows w _ 1 (length_added w.chips _) (length_added w.places (new_place lines ∷ [])))
wider w actor (Unplug place false) = wider_unless _ w (unplug_begun actor place w) (as_wide w (unplug_begun actor place w).world (length-change_where (λ p. p == place) _ 0 w.chips) refl)
wider w actor (Unplug place true) = wider_unless _ w (done (end_at (λ p. p == place) w)) (as_wide w (end_at (λ p. p == place) w) (length-change_where (λ p. p == place) _ 0 w.chips) refl)
wider w actor (MakeDir path) = wider_unless _ w _ (as_wide w _ refl refl)
wider w actor (RemoveDir path) = wider_unless _ w _ (as_wide w _ refl refl)
wider w actor (Write path value) = wider_unless _ w _ (as_wide w _ refl refl)
wider w actor (Read path) = by_board w (step w actor (Read path)).world (read_outcome-board _ w) (read_as_many _ w)
wider w actor (Live device) = wider_unless _ w (gone_live device w) (live_wider device w)
wider w actor (Remove device false) = wider_unless _ w (remove_begun actor device w) (as_wide w (remove_begun actor device w).world (length-change_where (is_up_of device w) _ 0 w.chips) refl)
wider w actor (Remove device true) = wider_unless _ w (remove_ended actor device w) (as_wide w (remove_ended actor device w).world (length-change_where (is_removing_of device actor w) _ 0 w.chips) refl)
wider w actor (Tick mono real) = by_board w (step w actor (Tick mono real)).world (tick-board mono real w) (by_ledger w (step w actor (Tick mono real)).world (tick_same mono real w))
wider w actor (Pin place what) = wider_unless _ w _ (as_wide w _ refl (length-set w.places place _))
wider w actor (Irq place offset what) = wider_unless _ w _ (as_wide w _ refl (length-set w.places place _))
wider w actor (Pull place offset up) = by_board w (step w actor (Pull place offset up)).world (keeps _ w _ (raw_edge-board place offset _ _)) (as_many_unless _ w _ (by_ledger w (pull_line place offset up w) (pull_line_same place offset up w)))
wider w actor (Level place offset pull) = wider_unless _ w _ (as_wide w w refl refl)
wider w actor (Interrupt place offset up) = by_board w (step w actor (Interrupt place offset up)).world (keeps _ w _ (raw_edge-board place offset _ _)) (as_many_unless _ w _ (by_ledger w (pull_line place offset up w) (pull_line_same place offset up w)))
wider w actor (OpenChip word) = by_board w (step w actor (OpenChip word)).world (open_at-board _ w) (opened_as_many _ w)
wider w actor (Find place name) = by_board w (step w actor (Find place name)).world (found-board _ w) (found_as_many (flat_map (named_at name w) (searched place w)) w)
wider w actor (Ioctl place fd cmd len bytes part) = by_board w (step w actor (Ioctl place fd cmd len bytes part)).world (ioctl-board actor place fd cmd len bytes part w) (by_number_as_many actor place fd len (command_of cmd) bytes part w)
wider w actor (ReadEdges place fd len) = wider_unless _ w _ (as_wide w _ refl refl)
wider w actor (ReadInfo place fd len) = wider_unless _ w _ (as_wide w _ refl refl)
wider w actor (PollLine place fd) = wider_unless _ w _ (as_wide w _ refl refl)
wider w actor (PollChip place fd) = wider_unless _ w _ (as_wide w _ refl refl)
wider w actor (Close fd) = wider_unless _ w _ (by_board w _ (close_request-board (request_at w.requests fd) _) (closed_as_many (request_at w.requests fd) _))
wider w actor (RefusedCall place poll) = as_wide w w refl refl

-- requests at places below a number

abbrev Below : ℕ → List Request → Type 0
Below n rows = Each (λ (request : Request). request.place < n) rows

below_changed : (n : ℕ) (test : Request → Bool) (f : Request → Request) (rows : List Request) → ((x : Request) → (f x).place ≡ x.place) → Below n rows → Below n (change_first test f rows)
below_changed n test f [] same below = tt
below_changed n test f (x ∷ rows) same below = elim (test x) as (λ b. Below n (cond b (f x ∷ rows) (x ∷ change_first test f rows))) [
  | true ↦ (subst (λ p. p < n) (sym (same x)) below.0, below.1)
  | false ↦ (below.0, below_changed n test f rows same below.1)
]

below_without : (n : ℕ) (test : Request → Bool) (rows : List Request) → Below n rows → Below n (without_first test rows)
below_without n test [] below = tt
below_without n test (x ∷ rows) below = elim (test x) as (λ b. Below n (cond b rows (x ∷ without_first test rows))) [
  | true ↦ below.1
  | false ↦ (below.0, below_without n test rows below.1)
]

below_pushed : (n : ℕ) (rows : List Request) (x : Request) → Below n rows → x.place < n → Below n (rows ++ x ∷ [])
below_pushed n [] x below less = (less, tt)
below_pushed n (y ∷ rows) x below less = (below.0, below_pushed n rows x below.1 less)

below_more : (n m : ℕ) (rows : List Request) → n ≤ m → Below n rows → Below m rows
below_more n m [] le below = tt
below_more n m (x ∷ rows) le below = let less : x.place < n = below.0 in (omega arith, below_more n m rows le below.1)

either_place : (b : Bool) (y x : Request) → y.place ≡ x.place → (if b then y else x).place ≡ x.place
either_place true y x same = same
either_place false y x same = refl

edge_place : (offset : ℕ) (rising : Bool) (timestamp : ℕ) (x : Request) → (with_edge offset rising timestamp x).place ≡ x.place
edge_place offset rising timestamp x = either_place (is_monitored offset rising x) _ x refl

-- a new claim is at a place that has tables

some_lines : (bytes : List ℕ) → request_fault bytes ≡ None → 1 ≤ num_lines bytes
some_lines bytes e =
    let head = nothing_first (header_fault bytes) (config_fault (config_of bytes) (num_lines bytes)) e in
    let size = nothing_first (when ((num_lines bytes == 0) || nat_lt LINES_PER_REQUEST (num_lines bytes)) Inval) (first_of (when (not (is_zero_at REQUEST_PADDING REQUEST_PADDING_SIZE bytes)) Inval ∷ [])) head.0 in
    let both = or_false (num_lines bytes == 0) (nat_lt 64 (num_lines bytes)) (nothing_when ((num_lines bytes == 0) || nat_lt LINES_PER_REQUEST (num_lines bytes)) Inval size.0) in
    let some : (num_lines bytes == 0) ≡ false = both.0 in
    grind (arith, nat_tests)

one_taken : (n : ℕ) (xs : List ℕ) → 1 ≤ n → 1 ≤ length xs → 1 ≤ length (take n xs)
one_taken zero xs some few = absurd (omega arith)
one_taken (suc n) [] some few = absurd (omega arith)
one_taken (suc n) (x ∷ xs) some few = omega arith

one_of : (xs : List ℕ) → 1 ≤ length xs → (x : ℕ) × (list_any (nat_eq x) xs ≡ true)
one_of [] some = absurd (omega arith)
one_of (x ∷ xs) some = (x, ap (λ b. b || list_any (nat_eq x) xs) (equals_itself x))

has_tables : {X : Type 0} (tables : List (List X)) (place offset : ℕ) → offset < length (slice_index_or tables place []) → place < length tables
has_tables tables place offset less = elim (cases_lt place (length tables)) as (λ _. place < length tables) [
  | inl within ↦ within
  | inr past ↦ absurd (let none : length (slice_index_or tables place []) ≡ 0 = ap (λ l. length l) (read_past tables place [] past) in omega arith)
]

claim_below : (n place actor : ℕ) (bytes : List ℕ) (w : World) → length w.places ≡ n → request_fault bytes ≡ None → claim_refusal place actor (asked_in bytes) w ≡ None → place < n
claim_below n place actor bytes w tables fault refusal =
    let size : length (asked_in bytes).lines.offsets ≡ 64 = length-table_from (offset_asked bytes) 0 64 in
    let some = one_of (offsets_of (asked_in bytes).lines) (one_taken (num_lines bytes) (asked_in bytes).lines.offsets (some_lines bytes fault) (omega (arith, size))) in
    let free = lines_free place actor (asked_in bytes) w refusal some.0 some.1 in
    let within : place < length (map descs_of w.places) = has_tables (map descs_of w.places) place some.0 free.0 in
    let same : length (map descs_of w.places) ≡ length w.places = length_mapped descs_of w.places in
    omega (arith, tables)

below_stays : (n : ℕ) (w : World) (actor : ℕ) (call : Call) → length w.places ≡ n → Below n w.requests → Below n (step w actor call).world.requests
below_stays n w actor call tables = world_keeps (Below n) (λ v. length v.places ≡ n) (λ actor. Unit {0})
    (λ fd offset rising timestamp rows. below_changed n (has_number fd) (with_edge offset rising timestamp) rows (edge_place offset rising timestamp))
    (λ fd settings rows. below_changed n (has_number fd) (λ request. record request { settings = settings request.settings }) rows (λ x. refl))
    (λ fd max rows. below_changed n (has_number fd) (read_from max) rows (λ x. refl))
    (λ v actor request before may by. below_changed n (has_number request.fd) held v.requests (λ x. refl))
    (λ v actor request before may by. below_without n (has_number request.fd) v.requests)
    (λ v fd request before is at. below_without n (has_number request.fd) v.requests)
    (λ place actor bytes v before may fault refusal below. below_pushed n v.requests (new_claim v.next place actor (asked_in bytes)) below (claim_below n place actor bytes v before fault refusal))
    w actor call tables (λ is. tt)

-- each call keeps the requests at chips

stays : (w : World) (actor : ℕ) (call : Call) → HasRequestsAtChips w → HasRequestsAtChips (step w actor call).world
stays w actor call at =
    let grown = wider w actor call in
    let tables : length w.places ≡ length w.chips = at.tables in
    let chips : length (step w actor call).world.chips ≡ length w.chips + grown.more = grown.chips in
    let places : length (step w actor call).world.places ≡ length w.places + grown.more = grown.tables in
    record {
      tables = omega arith;
      requests = below_more (length w.chips) (length (step w actor call).world.chips) (step w actor call).world.requests (omega arith) (below_stays (length w.chips) w actor call tables at.requests);
    }

-- what a Probe is answered

abbrev number_of : Reply → ℕ
number_of (Number n) = n
number_of _ = 0

abbrev is_number : Reply → Type 0
is_number (Number n) = Unit {0}
is_number _ = ⊥

probed : (r : Option Errno) (w after : World) (n place : ℕ) → (refused_or r w (numbers n after)).reply ≡ Number place → n ≡ place
probed None w after n place e = ap (λ reply. number_of reply) e
probed (Some errno) w after n place e = absurd (subst (λ reply. is_number reply) (sym e) tt)

none_is_some : (request : Request) → None ≡ Some request → ⊥
none_is_some request e = subst (λ (o : Option Request). is_none o) e tt where
  is_none : Option Request → Type 0
  is_none None = Unit {0}
  is_none (Some x) = ⊥

abbrev request_or : Request → Option Request → Request
request_or d None = d
request_or d (Some x) = x

below_found : (n fd : ℕ) (rows : List Request) (request : Request) → Below n rows → request_at rows fd ≡ Some request → request.place < n
below_found n fd [] request below is = absurd (none_is_some request is)
below_found n fd (x ∷ rows) request below is = elim (has_number fd x) as (λ b. (if b then Some x else request_at rows fd) ≡ Some request → request.place < n) [
  | true ↦ (λ e. subst (λ (y : Request). y.place < n) (ap (λ o. request_or x o) e) below.0)
  | false ↦ (λ e. below_found n fd rows request below.1 e)
] is

takes_free : (w : World) → HasRequestsAtChips w → ProbeTakesFreePlace w
takes_free w at actor label lines kind place answered fd request is same =
    let below : request.place < length w.chips = below_found (length w.chips) fd w.requests request at.requests is in
    let number : length w.chips ≡ place = probed (when (nat_le PLACES (length w.chips)) NoSpc) w _ (length w.chips) place answered in omega (arith, same)

module _ {K : Type 0} (stands_for : K → World → Type 0) where
  after : (w : World) (history : List (Entry K Call Reply Gift)) → HasRequestsAtChips w → HasRequestsAtChips (fold_from (machine stands_for) w history)
  after w [] at = at
  after w (e ∷ history) at = after (step w e.actor e.call).world history (stays w e.actor e.call at)

  pub probes_take_free_places : ProbesTakeFreePlaces stands_for
  probes_take_free_places = always stands_for (λ history. ProbeTakesFreePlace (world_of stands_for history))
      (λ history legal. takes_free (world_of stands_for history) (after opening history (record { tables = refl; requests = tt })))
