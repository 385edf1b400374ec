-- A refused call leaves all as it was, except for the claim whose driver failed.
use Rattle.std.proofs.Common.{◌≡◌, ℕ, Bool, true, false, ◌&&◌, not, nat_le, length, take, ◌==◌, refl, sym, ap, ◌∙◌, subst, cond, inl, inr, List, [], ◌∷◌, Option, Some, None, Result, Ok, Err}
use Rattle.std.specs.Option.{option_and_then}
use Rattle.std.specs.List.{find}
use Rattle.std.proofs.lemmas.Bool.{cases_Bool, false≢true, true≢false}
use Rattle.gl_base.specs.Refusals.{first_of, when}
use Rattle.gl_base.specs.Rows.{without_first}
use Rattle.gl_base.specs.declared.errno.Errno.TheVariants.{BadF, Busy, Inval, NoSpc}
use Rattle.gl_base.specs.declared.limits.TheConstants.{PLACES}
use Rattle.gl_irq.specs.Irq.{act_refusal}
use Rattle.gl_simtree.specs.Calls.{live_refusal, mkdir_refusal, remove_refusal, rmdir_refusal, write_refusal}
use Rattle.gl_simtree.specs.Nodes.{node_at}
use Rattle.gl_uapi.specs.Fields.{number_at}
use Rattle.gl_uapi.specs.declared.layout.TheConstants.{INFO_CHANGED_SIZE, LINE_EVENT_SIZE}
use Rattle.gl_watch.specs.Files.{file_at, unwatch_refusal, watch_refusal}
use Rattle.gl_model.specs.AskedLines.{asked_in, request_fault}
use Rattle.gl_model.specs.Chips.{place_refusal, places_left}
use Rattle.gl_model.specs.Clock.{clock_refusal}
use Rattle.gl_model.specs.Commands.{info_refusal, offset_named}
use Rattle.gl_model.specs.Interrupts.{irq_line}
use Rattle.gl_model.specs.Pins.{pin_refusal}
use Rattle.gl_model.specs.Places.{kind_at, lines_at, place_at}
use Rattle.gl_model.specs.Pulls.{is_simulated, level_refusal}
use Rattle.gl_model.specs.Reading.{changes_for, events_for, read_refusal}
use Rattle.gl_model.specs.Removal.{is_unplugging, removed_places, unplug_refusal}
use Rattle.gl_base.specs.declared.errno.Errno.{Errno}
use Rattle.gl_uapi.specs.Command.{command_of, size_of}
use Rattle.gl_uapi.specs.declared.commands.Command.{Command}
use Rattle.gl_uapi.specs.declared.commands.Command.TheVariants.{ChipInfo, LineInfo, Watch, Unwatch, GetLine, SetConfig, GetValues, SetValues}
use Rattle.gl_model.specs.declared.call.Call.{Call}
use Rattle.gl_model.specs.declared.call.Call.TheVariants.{Probe, Unplug, MakeDir, RemoveDir, Write, Read, Live, Remove, Tick, Pin, Irq, Pull, Level, Interrupt, OpenChip, Find, Ioctl, ReadEdges, ReadInfo, PollLine, PollChip, Close, Refused as RefusedCall}
use Rattle.gl_model.specs.declared.call.Part.{Part}
use Rattle.gl_model.specs.declared.call.Part.TheVariants.{Whole, Ask, Tell}
use Rattle.gl_model.specs.Claiming.{claim_at, claim_by, claim_number, claim_refusal, told_claim}
use Rattle.gl_model.specs.Entries.{is_tell, is_get_line}
use Rattle.gl_model.specs.Ioctl.{act_on, by_number, checked, in_part}
use Rattle.gl_model.specs.OpenFiles.{chip_file_refusal, command_refusal, in_parts, on_request, request_file_refusal}
use Rattle.gl_model.specs.Opening.{found, is_open, open_at, open_refusal}
use Rattle.gl_model.specs.Outcome.{Outcome, refused_or}
use Rattle.gl_model.specs.Refusing.{DropsClaim, LeavesAll, LosesOne, RefusalsLeaveAll, is_failed_claim, is_io}
use Rattle.gl_model.specs.Step.{step}
use Rattle.gl_model.specs.Tree.{read_outcome}
use Rattle.gl_model.specs.World.{World, Request, has_number, request_at}
use Rattle.gl_model.proofs.Phases.{same_number}
use Rattle.gl_base.specs.declared.lines.Lines.{Lines}
use Rattle.gl_base.specs.declared.settings.Resolved.{Resolved}

-- by a refusal, or else by what the call does
leaves_unless : (r : Option Errno) (w : World) (out : Outcome) → LeavesAll w out → LeavesAll w (refused_or r w out)
leaves_unless None w out leaves = leaves
leaves_unless (Some errno) w out leaves = λ h. (refl, refl)

leaves_in_parts : (part : Part) (act : ℕ → World → Outcome) (w : World) → ((bits : ℕ) → LeavesAll w (act bits w)) → LeavesAll w (in_parts part act w)
leaves_in_parts Whole act w leaves = λ h. (refl, refl)
leaves_in_parts Ask act w leaves = λ h. absurd h
leaves_in_parts (Tell None) act w leaves = λ h. (refl, refl)
leaves_in_parts (Tell (Some bits)) act w leaves = leaves bits

leaves_on_request : (act : Lines → Resolved → World → Outcome) (r : Option Request) (w : World)
    → ((lines : Lines) (settings : Resolved) → LeavesAll w (act lines settings w)) → LeavesAll w (on_request act r w)
leaves_on_request act None w leaves = λ h. (refl, refl)
leaves_on_request act (Some request) w leaves = leaves request.lines request.settings

leaves_act : (actor place fd : ℕ) (command : Command) (bytes : List ℕ) (part : Part) (w : World) → LeavesAll w (act_on actor place fd command bytes part w)
leaves_act actor place fd ChipInfo bytes part w = λ h. absurd h
leaves_act actor place fd LineInfo bytes part w = leaves_unless (info_refusal place bytes w) w _ (λ h. absurd h)
leaves_act actor place fd Watch bytes part w = leaves_unless (first_of (info_refusal place bytes w ∷ watch_refusal (offset_named bytes) (file_at fd w.files) ∷ [])) w _ (λ h. absurd h)
leaves_act actor place fd Unwatch bytes part w = leaves_unless (first_of (when (nat_le (lines_at w place) (number_at 4 0 bytes)) Inval ∷ unwatch_refusal (number_at 4 0 bytes) (file_at fd w.files) ∷ [])) w _ (λ h. absurd h)
leaves_act actor place fd GetLine bytes part w =
    leaves_unless (request_fault bytes) w _ (leaves_unless (claim_refusal place actor (asked_in bytes) w) w _ (λ h. absurd h))
leaves_act actor place fd SetConfig bytes part w =
    leaves_on_request _ (request_at w.requests fd) w (λ lines settings. leaves_unless _ w _ (leaves_in_parts part _ w (λ bits h. absurd h)))
leaves_act actor place fd GetValues bytes part w =
    leaves_on_request _ (request_at w.requests fd) w (λ lines settings. leaves_unless _ w _ (leaves_in_parts part _ w (λ bits h. absurd h)))
leaves_act actor place fd SetValues bytes part w =
    leaves_on_request _ (request_at w.requests fd) w (λ lines settings. leaves_unless _ w _ (leaves_in_parts part _ w (λ bits h. absurd h)))

leaves_told : (answer : Option ℕ) (len : ℕ) (bytes : List ℕ) (r : Option Request) (w : World)
    → is_io (told_claim answer len bytes r w).reply ≡ false → LeavesAll w (told_claim answer len bytes r w)
leaves_told answer len bytes None w e = λ h. (refl, refl)
leaves_told None len bytes (Some request) w e = absurd (true≢false e)
leaves_told (Some bits) len bytes (Some request) w e = λ h. absurd h

leaves_checked : (actor place fd len : ℕ) (command : Command) (bytes : List ℕ) (part : Part) (w : World) → LeavesAll w (checked actor place fd len command bytes part w)
leaves_checked actor place fd len command bytes part w =
    leaves_unless (command_refusal place fd len command part w) w _ (leaves_act actor place fd command (take (size_of command) bytes) part w)

-- the tell of a request of lines was refused with EIO
abbrev is_failed : Option Command → Part → Outcome → Bool
is_failed command part out = (is_get_line command && is_tell part) && is_io out.reply

leaves_part : (actor place fd len : ℕ) (command : Command) (bytes : List ℕ) (part : Part) (w : World)
    → is_failed (Some command) part (in_part actor place fd len command bytes part w) ≡ false → LeavesAll w (in_part actor place fd len command bytes part w)
leaves_part actor place fd len GetLine bytes Whole w e = leaves_checked actor place fd len GetLine bytes Whole w
leaves_part actor place fd len GetLine bytes Ask w e = leaves_checked actor place fd len GetLine bytes Ask w
leaves_part actor place fd len GetLine bytes (Tell answer) w e = leaves_told answer len bytes (claim_at place (claim_by w.requests actor)) w e
leaves_part actor place fd len ChipInfo bytes part w e = leaves_checked actor place fd len ChipInfo bytes part w
leaves_part actor place fd len LineInfo bytes part w e = leaves_checked actor place fd len LineInfo bytes part w
leaves_part actor place fd len Watch bytes part w e = leaves_checked actor place fd len Watch bytes part w
leaves_part actor place fd len Unwatch bytes part w e = leaves_checked actor place fd len Unwatch bytes part w
leaves_part actor place fd len SetConfig bytes part w e = leaves_checked actor place fd len SetConfig bytes part w
leaves_part actor place fd len GetValues bytes part w e = leaves_checked actor place fd len GetValues bytes part w
leaves_part actor place fd len SetValues bytes part w e = leaves_checked actor place fd len SetValues bytes part w

leaves_number : (actor place fd len : ℕ) (command : Option Command) (bytes : List ℕ) (part : Part) (w : World)
    → is_failed command part (by_number actor place fd len command bytes part w) ≡ false → LeavesAll w (by_number actor place fd len command bytes part w)
leaves_number actor place fd len None bytes part w e = λ h. (refl, refl)
leaves_number actor place fd len (Some command) bytes part w e = leaves_part actor place fd len command bytes part w e

-- the claim whose driver failed

at_this_place : (place : ℕ) (claim : Option Request) (request : Request) → claim_at place claim ≡ Some request → claim ≡ Some request
at_this_place place None request is = cc
at_this_place place (Some claim) request is = elim (cases_Bool (claim.place == place)) [
  | inl e ↦ sym (ap (λ b. cond b (Some claim) None) e) ∙ is
  | inr e ↦ (let nothing : (let none : Option Request = None in none ≡ Some request) = sym (ap (λ b. cond b (Some claim) None) e) ∙ is in cc)
]

module _ {X : Type 0} where
  one_lost : (test : X → Bool) (xs : List X) (row : X) → find test xs ≡ Some row → LosesOne test row xs (without_first test xs)
  one_lost test [] row is = cc
  one_lost test (x ∷ xs) row is = elim (cases_Bool (test x)) [
    | inl e ↦
        (let found : Some x ≡ Some row = sym (ap (λ b. cond b (Some x) (find test xs)) e) ∙ is in
        let here : x ≡ row = cc in
        record {
          front = [];
          back = xs;
          passes = subst (λ y. test y ≡ true) here e;
          none_in_front = refl;
          was = ap (λ y. y ∷ xs) here;
          is_now = ap (λ b. cond b xs (x ∷ without_first test xs)) e;
        })
    | inr e ↦
        (let behind = one_lost test xs row (sym (ap (λ b. cond b (Some x) (find test xs)) e) ∙ is) in
        record {
          front = x ∷ behind.front;
          back = behind.back;
          passes = behind.passes;
          none_in_front = ap (λ b. cond b (Some x) (find test behind.front)) e ∙ behind.none_in_front;
          was = ap (λ ys. x ∷ ys) behind.was;
          is_now = ap (λ b. cond b xs (x ∷ without_first test xs)) e ∙ ap (λ ys. x ∷ ys) behind.is_now;
        })
  ]

-- what is found of a number has this number
number_found : (n : ℕ) (requests : List Request) (request : Request) → find (has_number n) requests ≡ Some request → request.fd ≡ n
number_found n [] request is = cc
number_found n (x ∷ requests) request is = elim (cases_Bool (has_number n x)) [
  | inl e ↦ (let found : Some x ≡ Some request = sym (ap (λ b. cond b (Some x) (find (has_number n) requests)) e) ∙ is in let here : x ≡ request = cc in ap (λ (r : Request). r.fd) (sym here) ∙ same_number x.fd n e)
  | inr e ↦ number_found n requests request (sym (ap (λ b. cond b (Some x) (find (has_number n) requests)) e) ∙ is)
]

-- the claim of an actor at a place is the request of its own number
found_of_number : (place : ℕ) (number : Option ℕ) (requests : List Request) (request : Request) → claim_at place (option_and_then (request_at requests) number) ≡ Some request
    → find (has_number request.fd) requests ≡ Some request
found_of_number place None requests request is = cc
found_of_number place (Some n) requests request is =
    let found : request_at requests n ≡ Some request = at_this_place place (request_at requests n) request is in
    subst (λ k. find (has_number k) requests ≡ Some request) (sym (number_found n requests request found)) found

found_by_its_number : (place actor : ℕ) (requests : List Request) (request : Request) → claim_at place (claim_by requests actor) ≡ Some request → find (has_number request.fd) requests ≡ Some request
found_by_its_number place actor requests request is = found_of_number place (claim_number requests actor) requests request is

drops_told : (actor place : ℕ) (answer : Option ℕ) (len : ℕ) (bytes : List ℕ) (r : Option Request) (w : World) → claim_at place (claim_by w.requests actor) ≡ r
    → is_io (told_claim answer len bytes r w).reply ≡ true → DropsClaim actor place (Tell answer) w (told_claim answer len bytes r w)
drops_told actor place answer len bytes None w is e = absurd (false≢true e)
drops_told actor place None len bytes (Some request) w is e = record {
  driver_failed = refl;
  claim = request;
  was_unfinished = is;
  claim_goes = one_lost (has_number request.fd) w.requests request (found_by_its_number place actor w.requests request is);
  lines_go_free = refl;
  all_else_stays = refl;
  writes_nothing = refl;
}
drops_told actor place (Some bits) len bytes (Some request) w is e = absurd (false≢true e)

drops_part : (actor place fd len : ℕ) (command : Command) (bytes : List ℕ) (part : Part) (w : World)
    → is_failed (Some command) part (in_part actor place fd len command bytes part w) ≡ true
    → DropsClaim actor place part w (in_part actor place fd len command bytes part w)
drops_part actor place fd len GetLine bytes Whole w e = absurd (false≢true e)
drops_part actor place fd len GetLine bytes Ask w e = absurd (false≢true e)
drops_part actor place fd len GetLine bytes (Tell answer) w e = drops_told actor place answer len bytes (claim_at place (claim_by w.requests actor)) w refl e
drops_part actor place fd len ChipInfo bytes part w e = absurd (false≢true e)
drops_part actor place fd len LineInfo bytes part w e = absurd (false≢true e)
drops_part actor place fd len Watch bytes part w e = absurd (false≢true e)
drops_part actor place fd len Unwatch bytes part w e = absurd (false≢true e)
drops_part actor place fd len SetConfig bytes part w e = absurd (false≢true e)
drops_part actor place fd len GetValues bytes part w e = absurd (false≢true e)
drops_part actor place fd len SetValues bytes part w e = absurd (false≢true e)

drops_number : (actor place fd len : ℕ) (command : Option Command) (bytes : List ℕ) (part : Part) (w : World)
    → is_failed command part (by_number actor place fd len command bytes part w) ≡ true
    → DropsClaim actor place part w (by_number actor place fd len command bytes part w)
drops_number actor place fd len None bytes part w e = absurd (false≢true e)
drops_number actor place fd len (Some command) bytes part w e = drops_part actor place fd len command bytes part w e

-- the other calls

leaves_open : (place : Option ℕ) (w : World) → LeavesAll w (open_at place w)
leaves_open None w = λ h. (refl, refl)
leaves_open (Some place) w = leaves_unless (open_refusal place w) w _ (λ h. absurd h)

leaves_found : (lines : List (ℕ × ℕ)) (w : World) → LeavesAll w (found lines w)
leaves_found [] w = λ h. (refl, refl)
leaves_found (line ∷ lines) w = λ h. absurd h

leaves_read : (answer : Result (List ℕ) Errno) (w : World) → LeavesAll w (read_outcome answer w)
leaves_read (Ok text) w = λ h. absurd h
leaves_read (Err errno) w = λ h. (refl, refl)

leaves : (w : World) (actor : ℕ) (call : Call) → is_failed_claim call (step w actor call).reply ≡ false → LeavesAll w (step w actor call)
leaves w actor (Probe label lines kind) e = leaves_unless (when (nat_le PLACES (length w.chips)) NoSpc) w _ (λ h. absurd h)
leaves w actor (Unplug place false) e = leaves_unless (unplug_refusal place w) w _ (λ h. absurd h)
leaves w actor (Unplug place true) e = leaves_unless (when (not (is_unplugging actor w place)) Busy) w _ (λ h. absurd h)
leaves w actor (MakeDir path) e = leaves_unless (mkdir_refusal (node_at path) w.tree) w _ (λ h. absurd h)
leaves w actor (RemoveDir path) e = leaves_unless (rmdir_refusal (node_at path) w.tree) w _ (λ h. absurd h)
leaves w actor (Write path value) e = leaves_unless (write_refusal (node_at path) value w.tree) w _ (λ h. absurd h)
leaves w actor (Read path) e = leaves_read _ w
leaves w actor (Live device) e = leaves_unless (live_refusal device (places_left w) w.tree) w _ (λ h. absurd h)
leaves w actor (Remove device false) e = leaves_unless (remove_refusal device w.tree) w _ (λ h. absurd h)
leaves w actor (Remove device true) e = leaves_unless (when (length (removed_places device actor w) == 0) Busy) w _ (λ h. absurd h)
leaves w actor (Tick mono real) e = leaves_unless (clock_refusal mono real w) w _ (λ h. absurd h)
leaves w actor (Pin place what) e = leaves_unless (first_of (place_refusal place w ∷ pin_refusal (lines_at w place) (place_at w place) what ∷ [])) w _ (λ h. absurd h)
leaves w actor (Irq place offset what) e = leaves_unless (first_of (place_refusal place w ∷ act_refusal (place_at w place).irqs offset what (irq_line (place_at w place) offset) ∷ [])) w _ (λ h. absurd h)
leaves w actor (Pull place offset up) e = leaves_unless (level_refusal place offset (is_simulated (kind_at w place)) w) w _ (λ h. absurd h)
leaves w actor (Level place offset pull) e = leaves_unless (level_refusal place offset (is_simulated (kind_at w place)) w) w _ (λ h. absurd h)
leaves w actor (Interrupt place offset up) e = leaves_unless (level_refusal place offset (not (is_simulated (kind_at w place))) w) w _ (λ h. absurd h)
leaves w actor (OpenChip word) e = leaves_open _ w
leaves w actor (Find place name) e = leaves_found _ w
leaves w actor (Ioctl place fd cmd len bytes part) e = leaves_number actor place fd len (command_of cmd) bytes part w e
leaves w actor (ReadEdges place fd len) e = leaves_unless (first_of (request_file_refusal place fd w ∷ read_refusal LINE_EVENT_SIZE len (length (events_for fd w)) ∷ [])) w _ (λ h. absurd h)
leaves w actor (ReadInfo place fd len) e = leaves_unless (first_of (chip_file_refusal place fd w ∷ read_refusal INFO_CHANGED_SIZE len (length (changes_for fd w)) ∷ [])) w _ (λ h. absurd h)
leaves w actor (PollLine place fd) e = leaves_unless (request_file_refusal place fd w) w _ (λ h. absurd h)
leaves w actor (PollChip place fd) e = leaves_unless (chip_file_refusal place fd w) w _ (λ h. absurd h)
leaves w actor (Close fd) e = leaves_unless (when (not (is_open fd w)) BadF) w _ (λ h. absurd h)
leaves w actor (RefusedCall place true) e = λ h. absurd h
leaves w actor (RefusedCall place false) e = λ h. (refl, refl)

pub refusals_leave_all : RefusalsLeaveAll
refusals_leave_all = record {
  leaves = leaves;
  drops_claim = λ w actor place fd cmd len bytes part. drops_number actor place fd len (command_of cmd) bytes part w;
}
