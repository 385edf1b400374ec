-- At most PLACES chips, and numbers of files below 2^31.
use Rattle.std.proofs.Common.{◌≡◌, ◌+◌, ◌-◌, ◌<◌, ◌≤◌, ◌^◌, ℕ, List, [], ◌∷◌, ◌++◌, length, map, refl, ap, ◌∙◌, Bool, true, false, not, Option, Some, None, arith, subst, sym}
use Rattle.gl_model.proofs.Boards.{board, keeps, raw_edge-board, ioctl-board, open_at-board, found-board, read_outcome-board, tick-board, close-board}
use Rattle.gl_model.proofs.Columns.{length-change_where}
use Rattle.gl_model.proofs.Phases.{nothing_first, nothing_when}
use Rattle.gl_model.proofs.Soundness.{length_added, length_mapped}
use Rattle.gl_model.proofs.Ledger.{Ledger, ledger}
use Rattle.gl_model.proofs.LedgerSteps.{configure_from_same, notify_each_same, on_request_same, pull_line_same, set_config_same, get_values_same, set_values_same, tick_same, unless_same}
use Rattle.gl_model.proofs.Replies.{low_number}
use Rattle.gl_model.specs.Bounds.{HasBounds, IsBounded, LegalWorldsHaveBounds, WorldsStayBounded}
use Rattle.gl_base.specs.Refusals.{first_of, when}
use Rattle.gl_base.specs.declared.errno.Errno.TheVariants.{BadF, Busy, Inval, NoSpc, NoDev, NoEnt, Perm}
use Rattle.gl_base.specs.declared.limits.TheConstants.{PLACES}
use Rattle.gl_simtree.specs.Nodes.{node_at}
use Rattle.gl_uapi.specs.declared.layout.TheConstants.{CHANGED_RELEASED, CHANGED_REQUESTED}
use Rattle.gl_watch.specs.Files.{is_file}
use Rattle.gl_model.specs.AskedLines.{asked_in, request_fault, AskedLines}
use Rattle.gl_model.specs.Places.{place_at, with_place}
use Rattle.gl_model.specs.Removal.{is_unplugging, removed_places, unplug_refusal, change_where, end_at, is_removing_of, is_up_of, remove_begun, remove_ended, unplug_begun}
use Rattle.gl_base.specs.declared.errno.Errno.{Errno}
use Rattle.gl_uapi.specs.Command.{command_of, size_of}
use Rattle.gl_uapi.specs.declared.commands.Command.{Command}
use Rattle.gl_uapi.specs.declared.commands.Command.TheVariants.{ChipInfo, LineInfo, Watch, Unwatch, GetLine, SetConfig, GetValues, SetValues}
use Rattle.gl_model.specs.declared.call.Call.{Call}
use Rattle.gl_model.specs.declared.call.Call.TheVariants.{Probe, Unplug, MakeDir, RemoveDir, Write, Read, Live, Remove, Tick, Pin, Irq, Pull, Level, Interrupt, OpenChip, Find, Ioctl, ReadEdges, ReadInfo, PollLine, PollChip, Close, Refused as RefusedCall}
use Rattle.gl_model.specs.declared.call.Part.{Part}
use Rattle.gl_model.specs.Claiming.{claim_at, claim_by, claim_number, claim_refusal, told_claim, line_refusal, claim, claim_lines, held, with_descs, hold_claim}
use Rattle.gl_model.specs.Ioctl.{act_on, by_number, checked, in_part}
use Rattle.gl_model.specs.OpenFiles.{command_refusal, number_refusal}
use Rattle.gl_model.specs.Opening.{found, is_open, open_at, open_refusal, named_at, searched, with_file, close_request, without_request}
use Rattle.gl_model.specs.Outcome.{Outcome, refused_or, done, numbers, replies}
use Rattle.gl_model.specs.Step.{step}
use Rattle.gl_model.specs.Tree.{read_outcome, chip_of_bank, gone_live}
use Rattle.gl_model.specs.World.{World, Request, request_at, opening, has_number}
use Rattle.std.specs.Prelude.{◌==◌, is_some, nat_lt, ◌^◌, nat_le, flat_map, not, Result, Ok, Err, take}
use Rattle.gl_base.specs.Positions.{first_fault}
use Rattle.gl_simtree.specs.Rows.{banks_of, has, state_of}
use Rattle.gl_model.specs.Configuring.{set_config, configure_each}
use Rattle.gl_model.specs.Values.{get_values, set_values}
use Rattle.gl_model.specs.declared.reply.Reply.{Reply}
use Rattle.gl_model.specs.declared.reply.Reply.TheVariants.{Go}
use Rattle.gl_base.specs.Lines.{offsets_of}
use Rattle.gl_registry.specs.Chips.{place_of_word, moved_on, new_chip}
use Rattle.gl_base.specs.Rows.{Each, change_first, without_first}
use Rattle.gl_world.specs.History.{fold_from}
use Rattle.gl_world.specs.declared.history.Entry.{Entry}
use Rattle.gl_model.specs.Machine.{machine, world_of}
use Rattle.gl_model.specs.declared.gift.Gift.{Gift}
use Rattle.gl_desc.specs.Desc.{settled}
use Rattle.gl_model.specs.Holders.{file_numbers}
use Rattle.gl_simtree.specs.Forms.{is_device}
use Rattle.gl_simtree.specs.declared.node.Directory.TheVariants.{Device}
use Rattle.std.proofs.lemmas.Bool.Decides.{nat_tests}
use Rattle.gl_simtree.specs.Calls.{is_leaving, is_live, live_refusal, mkdir_refusal, read_answer, remove_refusal, rmdir_refusal, write_refusal}
use Rattle.gl_model.specs.Chips.{is_leaving as is_leaving_phase, phase_at, places_left}
use Rattle.gl_model.proofs.MachineLaws.{always}
use Rattle.gl_model.proofs.HoldersLaw.{holders_always_agree}
use Rattle.gl_model.specs.declared.call.Part.TheVariants.{Whole, Ask, Tell}

-- chips

abbrev Few : World → Type 0
Few w = length w.chips ≤ PLACES

few_unless : (r : Option Errno) (w : World) (out : Outcome) → Few w → (r ≡ None → Few out.world) → Few (refused_or r w out).world
few_unless None w out few h = h refl
few_unless (Some e) w out few h = few

same_board : (w v : World) → board v ≡ board w → Few w → Few v
same_board w v e few = let n : length v.chips ≡ length w.chips = ap (λ b. length b.0) e in omega arith

few_changed : (test : ℕ → Bool) (w : World) → Few w → length (change_where test moved_on 0 w.chips) ≤ PLACES
few_changed test w few = let n : length (change_where test moved_on 0 w.chips) ≡ length w.chips = length-change_where test moved_on 0 w.chips in omega arith

room_for : (device : List ℕ) (w : World) → live_refusal device (places_left w) w.tree ≡ None → length (banks_of device w.tree) ≤ PLACES - length w.chips
room_for device w e =
    let form = when (not (is_device device)) Inval in
    let there = when (not (has (Device device) w.tree)) NoEnt in
    let leaving = when (is_leaving (state_of device w.tree)) Busy in
    let live = when (is_live (state_of device w.tree)) Perm in
    let empty = when (length (banks_of device w.tree) == 0) Inval in
    let room = when (nat_lt (places_left w) (length (banks_of device w.tree))) NoSpc in
    let one = nothing_first form (first_of (there ∷ leaving ∷ live ∷ empty ∷ room ∷ [])) e in
    let two = nothing_first there (first_of (leaving ∷ live ∷ empty ∷ room ∷ [])) one.1 in
    let three = nothing_first leaving (first_of (live ∷ empty ∷ room ∷ [])) two.1 in
    let four = nothing_first live (first_of (empty ∷ room ∷ [])) three.1 in
    let five = nothing_first empty (first_of (room ∷ [])) four.1 in
    let six = nothing_first room None five.1 in
    let fits : nat_lt (places_left w) (length (banks_of device w.tree)) ≡ false = nothing_when (nat_lt (places_left w) (length (banks_of device w.tree))) NoSpc six.0 in
    grind (arith, nat_tests)

few_live : (device : List ℕ) (w : World) → Few w → length (banks_of device w.tree) ≤ PLACES - length w.chips → Few (gone_live device w).world
few_live device w few room =
    let n : length (w.chips ++ map chip_of_bank (banks_of device w.tree)) ≡ length w.chips + length (map chip_of_bank (banks_of device w.tree)) = length_added w.chips (map chip_of_bank (banks_of device w.tree)) in
    let m : length (map chip_of_bank (banks_of device w.tree)) ≡ length (banks_of device w.tree) = length_mapped chip_of_bank (banks_of device w.tree) in
    omega arith

few_probed : (label : List ℕ) (lines : ℕ) (w : World) → nat_le PLACES (length w.chips) ≡ false → length (w.chips ++ new_chip label lines ∷ []) ≤ PLACES
few_probed label lines w room = let n : length (w.chips ++ new_chip label lines ∷ []) ≡ length w.chips + 1 = length_added w.chips (new_chip label lines ∷ []) in grind (arith, nat_tests, n)

chips_stay : (w : World) (actor : ℕ) (call : Call) → Few w → Few (step w actor call).world
chips_stay w actor (Probe label lines kind) few = few_unless (when (nat_le PLACES (length w.chips)) NoSpc) w _ few (λ e. few_probed label lines w (nothing_when (nat_le PLACES (length w.chips)) NoSpc e))
chips_stay w actor (Unplug place false) few = few_unless (unplug_refusal place w) w (unplug_begun actor place w) few (λ _. few_changed (λ p. p == place) w few)
chips_stay w actor (Unplug place true) few = few_unless (when (not (is_unplugging actor w place)) Busy) w (done (end_at (λ p. p == place) w)) few (λ _. few_changed (λ p. p == place) w few)
chips_stay w actor (MakeDir path) few = few_unless (mkdir_refusal (node_at path) w.tree) w _ few (λ _. few)
chips_stay w actor (RemoveDir path) few = few_unless (rmdir_refusal (node_at path) w.tree) w _ few (λ _. few)
chips_stay w actor (Write path value) few = few_unless (write_refusal (node_at path) value w.tree) w _ few (λ _. few)
chips_stay w actor (Read path) few = same_board w (step w actor (Read path)).world (read_outcome-board (read_answer (node_at path) w.tree) w) few
chips_stay w actor (Live device) few = few_unless (live_refusal device (places_left w) w.tree) w (gone_live device w) few (λ e. few_live device w few (room_for device w e))
chips_stay w actor (Remove device false) few = few_unless (remove_refusal device w.tree) w (remove_begun actor device w) few (λ _. few_changed (is_up_of device w) w few)
chips_stay w actor (Remove device true) few = few_unless (when (length (removed_places device actor w) == 0) Busy) w (remove_ended actor device w) few (λ _. few_changed (is_removing_of device actor w) w few)
chips_stay w actor (Tick mono real) few = same_board w (step w actor (Tick mono real)).world (tick-board mono real w) few
chips_stay w actor (Pin place what) few = same_board w (step w actor (Pin place what)).world (keeps _ w _ refl) few
chips_stay w actor (Irq place offset what) few = same_board w (step w actor (Irq place offset what)).world (keeps _ w _ refl) few
chips_stay w actor (Pull place offset up) few = same_board w (step w actor (Pull place offset up)).world (keeps _ w _ (raw_edge-board place offset _ _)) few
chips_stay w actor (Level place offset pull) few = same_board w (step w actor (Level place offset pull)).world (keeps _ w _ refl) few
chips_stay w actor (Interrupt place offset up) few = same_board w (step w actor (Interrupt place offset up)).world (keeps _ w _ (raw_edge-board place offset _ _)) few
chips_stay w actor (OpenChip word) few = same_board w (step w actor (OpenChip word)).world (open_at-board (place_of_word w.chips word) w) few
chips_stay w actor (Find place name) few = same_board w (step w actor (Find place name)).world (found-board _ w) few
chips_stay w actor (Ioctl place fd cmd len bytes part) few = same_board w (step w actor (Ioctl place fd cmd len bytes part)).world (ioctl-board actor place fd cmd len bytes part w) few
chips_stay w actor (ReadEdges place fd len) few = same_board w (step w actor (ReadEdges place fd len)).world (keeps _ w _ refl) few
chips_stay w actor (ReadInfo place fd len) few = same_board w (step w actor (ReadInfo place fd len)).world (keeps _ w _ refl) few
chips_stay w actor (PollLine place fd) few = same_board w (step w actor (PollLine place fd)).world (keeps _ w _ refl) few
chips_stay w actor (PollChip place fd) few = same_board w (step w actor (PollChip place fd)).world (keeps _ w _ refl) few
chips_stay w actor (Close fd) few = same_board w (step w actor (Close fd)).world (close-board fd w) few
chips_stay w actor (RefusedCall place poll) few = few

-- numbers

one_more : (w : World) → number_refusal w ≡ None → w.next + 1 ≤ 2 ^ 31
one_more w e = let low : nat_lt w.next (2 ^ 31) ≡ true = low_number w e in grind (arith, nat_tests)

low_claimed : (place actor : ℕ) (asked : AskedLines) (w : World) → claim_refusal place actor asked w ≡ None → w.next + 1 ≤ 2 ^ 31
low_claimed place actor asked w e =
    one_more w (nothing_first (number_refusal w) (first_of (when (is_some (claim_number w.requests actor)) Busy ∷ first_fault (line_refusal (place_at w place) asked) 0 asked.lines.count ∷ [])) e).0

-- what is true of the next number, where it is true of one more
module _ (Q : ℕ → Type 0) (more : (n : ℕ) → n + 1 ≤ 2 ^ 31 → Q n → Q (n + 1)) where
  abbrev Low : World → Type 0
  Low w = Q w.next

  low_unless : (r : Option Errno) (w : World) (out : Outcome) → Low w → (r ≡ None → Low out.world) → Low (refused_or r w out).world
  low_unless None w out low h = h refl
  low_unless (Some e) w out low h = low

  same_ledger : (w v : World) → ledger v ≡ ledger w → Low w → Low v
  same_ledger w v e low = subst Q (sym (ap (λ (l : Ledger). l.next) e)) low

  low_opened : (o : Option ℕ) (w : World) → Low w → Low (open_at o w).world
  low_opened None w low = low
  low_opened (Some place) w low =
      let leaving : Bool = is_leaving_phase (phase_at w place) in
      low_unless (open_refusal place w) w (numbers w.next (with_file place w)) low
      (λ e. more w.next (one_more w (nothing_first (number_refusal w) None (nothing_first (when leaving NoDev) (first_of (number_refusal w ∷ [])) e).1).0) low)

  low_told : (answer : Option ℕ) (len : ℕ) (bytes : List ℕ) (o : Option Request) (w : World) → Low w → Low (told_claim answer len bytes o w).world
  low_told answer len bytes None w low = low
  low_told None len bytes (Some request) w low = low
  low_told (Some bits) len bytes (Some request) w low =
      let offsets : List ℕ = offsets_of request.lines in
      let lines_held : World = with_place request.place (with_descs offsets settled) (record w { requests = change_first (has_number request.fd) held w.requests }) in
      let set : World = configure_each request.place request.lines request.settings bits lines_held in
      same_ledger lines_held (hold_claim bits request w) (notify_each_same request.place offsets CHANGED_REQUESTED set ∙ configure_from_same request.place request.settings bits 0 offsets lines_held) low

  low_closed : (o : Option Request) (w : World) → Low w → Low (close_request o w)
  low_closed None w low = low
  low_closed (Some request) w low = same_ledger (without_request request w) (close_request (Some request) w) (notify_each_same request.place (offsets_of request.lines) CHANGED_RELEASED (without_request request w)) low

  low_acts : (actor place fd : ℕ) (command : Command) (bytes : List ℕ) (part : Part) (w : World) → Low w → Low (act_on actor place fd command bytes part w).world
  low_acts actor place fd ChipInfo bytes part w low = low
  low_acts actor place fd LineInfo bytes part w low = low_unless _ w _ low (λ _. low)
  low_acts actor place fd Watch bytes part w low = low_unless _ w _ low (λ _. low)
  low_acts actor place fd Unwatch bytes part w low = low_unless _ w _ low (λ _. low)
  low_acts actor place fd GetLine bytes part w low =
      low_unless (request_fault bytes) w (claim place actor (asked_in bytes) w) low
      (λ _. low_unless (claim_refusal place actor (asked_in bytes) w) w (replies (Go w.next) (claim_lines place actor (asked_in bytes) w)) low (λ e. more w.next (low_claimed place actor (asked_in bytes) w e) low))
  low_acts actor place fd SetConfig bytes part w low = same_ledger w (act_on actor place fd SetConfig bytes part w).world (on_request_same (set_config place fd bytes part) (request_at w.requests fd) w (λ lines settings. set_config_same place fd bytes part lines settings w)) low
  low_acts actor place fd GetValues bytes part w low = same_ledger w (act_on actor place fd GetValues bytes part w).world (on_request_same (get_values place bytes part) (request_at w.requests fd) w (λ lines settings. get_values_same place bytes part lines settings w)) low
  low_acts actor place fd SetValues bytes part w low = same_ledger w (act_on actor place fd SetValues bytes part w).world (on_request_same (set_values place bytes part) (request_at w.requests fd) w (λ lines settings. set_values_same place bytes part lines settings w)) low

  low_checked : (actor place fd len : ℕ) (command : Command) (bytes : List ℕ) (part : Part) (w : World) → Low w → Low (checked actor place fd len command bytes part w).world
  low_checked actor place fd len command bytes part w low =
      low_unless (command_refusal place fd len command part w) w (act_on actor place fd command (take (size_of command) bytes) part w) low (λ _. low_acts actor place fd command (take (size_of command) bytes) part w low)

  low_parts : (actor place fd len : ℕ) (command : Command) (bytes : List ℕ) (part : Part) (w : World) → Low w → Low (in_part actor place fd len command bytes part w).world
  low_parts actor place fd len ChipInfo bytes part w low = low_checked actor place fd len ChipInfo bytes part w low
  low_parts actor place fd len LineInfo bytes part w low = low_checked actor place fd len LineInfo bytes part w low
  low_parts actor place fd len Watch bytes part w low = low_checked actor place fd len Watch bytes part w low
  low_parts actor place fd len Unwatch bytes part w low = low_checked actor place fd len Unwatch bytes part w low
  low_parts actor place fd len GetLine bytes Whole w low = low_checked actor place fd len GetLine bytes Whole w low
  low_parts actor place fd len GetLine bytes Ask w low = low_checked actor place fd len GetLine bytes Ask w low
  low_parts actor place fd len GetLine bytes (Tell answer) w low = low_told answer len bytes (claim_at place (claim_by w.requests actor)) w low
  low_parts actor place fd len SetConfig bytes part w low = low_checked actor place fd len SetConfig bytes part w low
  low_parts actor place fd len GetValues bytes part w low = low_checked actor place fd len GetValues bytes part w low
  low_parts actor place fd len SetValues bytes part w low = low_checked actor place fd len SetValues bytes part w low

  low_numbered : (actor place fd len : ℕ) (command : Option Command) (bytes : List ℕ) (part : Part) (w : World) → Low w → Low (by_number actor place fd len command bytes part w).world
  low_numbered actor place fd len None bytes part w low = low
  low_numbered actor place fd len (Some command) bytes part w low = low_parts actor place fd len command bytes part w low

  low_found : (lines : List (ℕ × ℕ)) (w : World) → Low w → Low (found lines w).world
  low_found [] w low = low
  low_found (line ∷ lines) w low = low

  low_read : (r : Result (List ℕ) Errno) (w : World) → Low w → Low (read_outcome r w).world
  low_read (Ok text) w low = low
  low_read (Err errno) w low = low

  pub next_stays : (w : World) (actor : ℕ) (call : Call) → Low w → Low (step w actor call).world
  next_stays w actor (Probe label lines kind) low = low_unless _ w _ low (λ _. low)
  next_stays w actor (Unplug place false) low = low_unless _ w _ low (λ _. low)
  next_stays w actor (Unplug place true) low = low_unless _ w _ low (λ _. low)
  next_stays w actor (MakeDir path) low = low_unless _ w _ low (λ _. low)
  next_stays w actor (RemoveDir path) low = low_unless _ w _ low (λ _. low)
  next_stays w actor (Write path value) low = low_unless _ w _ low (λ _. low)
  next_stays w actor (Read path) low = low_read (read_answer (node_at path) w.tree) w low
  next_stays w actor (Live device) low = low_unless _ w _ low (λ _. low)
  next_stays w actor (Remove device false) low = low_unless _ w _ low (λ _. low)
  next_stays w actor (Remove device true) low = low_unless _ w _ low (λ _. low)
  next_stays w actor (Tick mono real) low = same_ledger w (step w actor (Tick mono real)).world (tick_same mono real w) low
  next_stays w actor (Pin place what) low = low_unless _ w _ low (λ _. low)
  next_stays w actor (Irq place offset what) low = low_unless _ w _ low (λ _. low)
  next_stays w actor (Pull place offset up) low = same_ledger w (step w actor (Pull place offset up)).world (unless_same _ w _ (pull_line_same place offset up w)) low
  next_stays w actor (Level place offset pull) low = low_unless _ w _ low (λ _. low)
  next_stays w actor (Interrupt place offset up) low = same_ledger w (step w actor (Interrupt place offset up)).world (unless_same _ w _ (pull_line_same place offset up w)) low
  next_stays w actor (OpenChip word) low = low_opened (place_of_word w.chips word) w low
  next_stays w actor (Find place name) low = low_found (flat_map (named_at name w) (searched place w)) w low
  next_stays w actor (Ioctl place fd cmd len bytes part) low = low_numbered actor place fd len (command_of cmd) bytes part w low
  next_stays w actor (ReadEdges place fd len) low = low_unless _ w _ low (λ _. low)
  next_stays w actor (ReadInfo place fd len) low = low_unless _ w _ low (λ _. low)
  next_stays w actor (PollLine place fd) low = low_unless _ w _ low (λ _. low)
  next_stays w actor (PollChip place fd) low = low_unless _ w _ low (λ _. low)
  next_stays w actor (Close fd) low = low_unless (when (not (is_open fd w)) BadF) w _ low (λ _. low_closed (request_at w.requests fd) (record w { files = without_first (is_file fd) w.files }) low)
  next_stays w actor (RefusedCall place poll) low = low

stays : (w : World) (actor : ℕ) (call : Call) → IsBounded w → IsBounded (step w actor call).world
stays w actor call b = record { chips = chips_stay w actor call b.chips; next = next_stays (λ n. n ≤ 2 ^ 31) (λ n le _. le) w actor call b.next }

-- the next number never falls
pub next_rises : (w : World) (actor : ℕ) (call : Call) → w.next ≤ (step w actor call).world.next
next_rises w actor call = next_stays (λ n. w.next ≤ n) (λ n le low. omega arith) w actor call (omega arith)

at_first : IsBounded opening
at_first = record { chips = omega arith; next = omega arith }

pub worlds_stay_bounded : WorldsStayBounded
worlds_stay_bounded = record { opens = at_first; stay = stays }

lower : (n m : ℕ) (xs : List ℕ) → n ≤ m → Each (λ fd. fd < n) xs → Each (λ fd. fd < m) xs
lower n m [] le each = tt
lower n m (x ∷ xs) le each = let lt : x < n = each.0 in (omega arith, lower n m xs le each.1)

module _ {K : Type 0} (stands_for : K → World → Type 0) where
  bounded_after : (w : World) (history : List (Entry K Call Reply Gift)) → IsBounded w → IsBounded (fold_from (machine stands_for) w history)
  bounded_after w [] b = b
  bounded_after w (e ∷ history) b = bounded_after (step w e.actor e.call).world history (stays w e.actor e.call b)

  pub legal_worlds_have_bounds : LegalWorldsHaveBounds stands_for
  legal_worlds_have_bounds = always stands_for (λ history. HasBounds (world_of stands_for history)) (λ history legal.
      let b : IsBounded (world_of stands_for history) = bounded_after opening history at_first in
      let w : World = world_of stands_for history in
      record { bounded = b; numbers = lower w.next (2 ^ 31) (file_numbers w) b.next (holders_always_agree stands_for history legal).numbers_below })
