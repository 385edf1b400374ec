-- The reply of each call has its form, and a call that is answered Go writes nothing.
use Rattle.std.proofs.lemmas.Bool.{true≢false, false≢true}
use Rattle.std.proofs.lemmas.Bool.Decides.{nat_tests}
use Rattle.gl_model.proofs.Refusals.{Only, OfPlain, only_of, only_when, at_place, of_pins, of_interrupts, of_levels, of_unplug, of_clock, of_mkdir, of_rmdir, of_write, of_live, of_remove, of_number, of_chip_file, of_request_file, of_command, of_unknown, of_reads, of_info, of_watch, of_unwatch, of_request, of_claim, of_new_config, of_mask, of_values}
use Rattle.std.proofs.Common.{◌≡◌, ℕ, Bool, true, false, ◌&&◌, not, nat_le, length, take, ◌==◌, refl, sym, ap, ◌∙◌, subst, cond, List, [], ◌∷◌, Option, Some, None, arith}
use Rattle.gl_base.specs.Refusals.{first_of, when}
use Rattle.gl_base.specs.declared.errno.Errno.TheVariants.{BadF, Busy, Inval, NoSpc, Fault, NoDev, MFile, Full, NoMemory}
use Rattle.gl_base.specs.declared.limits.TheConstants.{PLACES, FILES_MAX}
use Rattle.gl_irq.specs.Irq.{act_refusal}
use Rattle.gl_simtree.specs.Calls.{live_refusal, mkdir_refusal, remove_refusal, rmdir_refusal, write_refusal, read_answer, shown_of}
use Rattle.gl_simtree.specs.Nodes.{node_at}
use Rattle.gl_uapi.specs.Fields.{number_at}
use Rattle.gl_uapi.specs.declared.layout.TheConstants.{INFO_CHANGED_SIZE, LINE_EVENT_SIZE}
use Rattle.gl_watch.specs.Files.{file_at, unwatch_refusal, watch_refusal}
use Rattle.gl_model.specs.AskedLines.{asked_in, request_fault}
use Rattle.gl_model.specs.Chips.{place_refusal, places_left, phase_at, is_leaving}
use Rattle.gl_model.specs.Clock.{clock_refusal}
use Rattle.gl_model.specs.Commands.{info_refusal, offset_named}
use Rattle.gl_model.specs.Interrupts.{irq_line}
use Rattle.gl_model.specs.Pins.{pin_refusal}
use Rattle.gl_model.specs.Places.{kind_at, lines_at, place_at}
use Rattle.gl_model.specs.Pulls.{is_simulated, level_refusal, bit}
use Rattle.gl_model.specs.Reading.{changes_for, events_for, read_refusal, readiness}
use Rattle.gl_model.specs.Removal.{is_unplugging, removed_places, unplug_refusal}
use Rattle.gl_base.specs.declared.errno.Errno.{Errno}
use Rattle.gl_uapi.specs.Command.{command_of, size_of}
use Rattle.gl_uapi.specs.declared.commands.Command.{Command}
use Rattle.gl_uapi.specs.declared.commands.Command.TheVariants.{ChipInfo, LineInfo, Watch, Unwatch, GetLine, SetConfig, GetValues, SetValues}
use Rattle.gl_model.specs.declared.call.Call.{Call}
use Rattle.gl_model.specs.declared.call.Call.TheVariants.{Probe, Unplug, MakeDir, RemoveDir, Write, Read, Live, Remove, Tick, Pin, Irq, Pull, Level, Interrupt, OpenChip, Find, Ioctl, ReadEdges, ReadInfo, PollLine, PollChip, Close, Refused as RefusedCall}
use Rattle.gl_model.specs.declared.call.Part.{Part}
use Rattle.gl_model.specs.declared.call.Part.TheVariants.{Whole, Ask, Tell}
use Rattle.gl_model.specs.Claiming.{claim_at, claim_by, claim_number, claim_refusal, told_claim, line_refusal, claim, claim_lines, get_line_ask}
use Rattle.gl_model.specs.Entries.{is_tell, is_get_line, is_go}
use Rattle.gl_model.specs.Ioctl.{act_on, by_number, checked, in_part}
use Rattle.gl_model.specs.OpenFiles.{chip_file_refusal, command_refusal, in_parts, on_request, request_file_refusal, has_part, is_for_chips, kind_refusal, number_refusal, open_count}
use Rattle.gl_model.specs.Opening.{found, is_open, open_at, open_refusal, named_at, searched, with_file}
use Rattle.gl_model.specs.Outcome.{Outcome, refused_or, done, numbers, refused, replies, writes}
use Rattle.gl_model.specs.Step.{step}
use Rattle.gl_model.specs.Tree.{read_outcome}
use Rattle.gl_model.specs.World.{World, Request, request_at, opening}
use Rattle.gl_model.proofs.Phases.{nothing_first, nothing_when}
use Rattle.gl_base.specs.declared.lines.Lines.{Lines}
use Rattle.gl_base.specs.declared.settings.Resolved.{Resolved}
use Rattle.std.specs.Prelude.{◌==◌, ◌&&◌, is_some, nat_lt, ◌||◌, ◌^◌, nat_le, flat_map}
use Rattle.gl_base.specs.Positions.{first_fault}
use Rattle.gl_simtree.specs.Rows.{row_at}
use Rattle.gl_simtree.specs.declared.node.Node.{Node}
use Rattle.gl_simtree.specs.declared.node.Node.TheVariants.{Directory as DirectoryNode, File as FileNode}
use Rattle.gl_model.specs.Configuring.{config_refusal, reconfigure, set_config}
use Rattle.gl_model.specs.Values.{set_values_refusal, bits_in, drive_from, get_values, mask_in, set_values, values_of}
use Rattle.gl_attrs.specs.Setting.{resolved_for}
use Rattle.gl_model.specs.Bits.{has_bit_below}
use Rattle.gl_model.specs.Replies.{RepliesHaveForm, command_form, has_form, is_ready, may_refuse, numbered_form, tells_of_gone, EntriesHaveForm}
use Rattle.gl_model.specs.declared.reply.Reply.{Reply}
use Rattle.gl_model.specs.declared.reply.Reply.TheVariants.{Done, Number, Go, Found, Text, Ready, Refused}
use Rattle.gl_base.specs.Lines.{offsets_of}
use Rattle.gl_bank.specs.Level.{level, levels_at}
use Rattle.gl_model.proofs.SoundRequests.{or_false}
use Rattle.gl_registry.specs.Chips.{place_of_word}
use Rattle.gl_uapi.specs.LineValues.{values_bytes}
use Rattle.gl_base.specs.Rows.{Each}
use Rattle.gl_world.specs.History.{AnsweredFrom}
use Rattle.gl_world.specs.declared.history.Entry.{Entry}
use Rattle.gl_model.specs.Machine.{machine}
use Rattle.gl_model.specs.declared.gift.Gift.{Gift}
use Rattle.gl_model.proofs.MachineLaws.{always}

-- an error by which a call may be refused
abbrev MayRefuse : Call → Errno → Type 0
MayRefuse call e = may_refuse call e ≡ true

-- every error but ENODEV, ENOMEM and a full history may refuse any call
plain : (call : Call) → OfPlain (MayRefuse call)
plain call = record { perm = refl; no_ent = refl; nx_io = refl; bad_f = refl; again = refl; fault = refl; busy = refl; exist = refl; inval = refl; m_file = refl; no_spc = refl; op_not_supp = refl }

-- a call that is answered Go writes nothing
abbrev GoWritesNothing : Outcome → Type 0
GoWritesNothing out = is_go out.reply ≡ true → out.bytes ≡ []

abbrev Fits : Call → Outcome → Type 0
Fits call out = (has_form call out.reply ≡ true) × GoWritesNothing out

-- by a refusal, or else by what the call does
pub by : (P : Errno → Type 0) (Q : Outcome → Type 0) → ((e : Errno) (w : World) → P e → Q (refused e w)) → (r : Option Errno) (w : World) (out : Outcome) → Only P r → (r ≡ None → Q out) → Q (refused_or r w out)
by P Q q None w out only h = h refl
by P Q q (Some e) w out only h = q e w only

not_go : {A : Type 0} → false ≡ true → A
not_go e = absurd (false≢true e)

module _ (call : Call) (refuses : (e : Errno) → may_refuse call e ≡ true → has_form call (Refused e) ≡ true) where
  refused_fits : (e : Errno) (w : World) → may_refuse call e ≡ true → Fits call (refused e w)
  refused_fits e w h = (refuses e h, λ g. not_go g)

  fits : (r : Option Errno) (w : World) (out : Outcome) → Only (MayRefuse call) r → (r ≡ None → Fits call out) → Fits call (refused_or r w out)
  fits r w out only h = by (MayRefuse call) (Fits call) refused_fits r w out only h

-- commands

abbrev command_fits : Option Command → Part → Reply → Bool
command_fits c part (Refused e) = may_refuse (Ioctl 0 0 0 0 [] part) e
command_fits c part reply = numbered_form c part reply

abbrev Answers : Option Command → Part → Outcome → Type 0
Answers c part out = (command_fits c part out.reply ≡ true) × GoWritesNothing out

module _ (part : Part) where
  abbrev May : Errno → Type 0
  May e = may_refuse (Ioctl 0 0 0 0 [] part) e ≡ true

  ok : OfPlain May
  ok = plain (Ioctl 0 0 0 0 [] part)

  refused_answers : (c : Option Command) (e : Errno) (w : World) → May e → Answers c part (refused e w)
  refused_answers c e w h = (h, λ g. not_go g)

  answers : (c : Option Command) (r : Option Errno) (w : World) (out : Outcome) → Only May r → (r ≡ None → Answers c part out) → Answers c part (refused_or r w out)
  answers c r w out only h = by May (Answers c part) (refused_answers c) r w out only h

-- what GET_LINE, SET_CONFIG, GET_VALUES and SET_VALUES come to in two parts
asks_and_tells : (c : Command) (part : Part) (act : ℕ → World → Outcome) (w : World) → (command_form c Ask (Go 0) ≡ true) → ((answer : Option ℕ) (bits : ℕ) → Answers (Some c) (Tell answer) (act bits w)) → Answers (Some c) part (in_parts part act w)
asks_and_tells c Whole act w go tell = (refl, λ g. not_go g)
asks_and_tells c Ask act w go tell = (go, λ g. refl)
asks_and_tells c (Tell None) act w go tell = (refl, λ g. not_go g)
asks_and_tells c (Tell (Some bits)) act w go tell = tell (Some bits) bits

on_its_request : (c : Command) (part : Part) (act : Lines → Resolved → World → Outcome) (o : Option Request) (w : World) → ((lines : Lines) (settings : Resolved) → Answers (Some c) part (act lines settings w)) → Answers (Some c) part (on_request act o w)
on_its_request c part act None w h = (refl, λ g. not_go g)
on_its_request c part act (Some request) w h = h request.lines request.settings

pub low_number : (w : World) → number_refusal w ≡ None → nat_lt w.next (2 ^ 31) ≡ true
low_number w e =
    let isnt : (nat_le FILES_MAX (open_count w) || nat_le (2 ^ 31) w.next) ≡ false = nothing_when (nat_le FILES_MAX (open_count w) || nat_le (2 ^ 31) w.next) MFile e in
    let low : nat_le (2 ^ 31) w.next ≡ false = (or_false (nat_le FILES_MAX (open_count w)) (nat_le (2 ^ 31) w.next) isnt).1 in
    grind (arith, nat_tests)

claims : (actor place : ℕ) (bytes : List ℕ) (w : World) → Answers (Some GetLine) Ask (get_line_ask place actor bytes w)
claims actor place bytes w =
    answers Ask (Some GetLine) (request_fault bytes) w (claim place actor (asked_in bytes) w) (of_request (May Ask) (ok Ask) bytes)
    (λ _. answers Ask (Some GetLine) (claim_refusal place actor (asked_in bytes) w) w (replies (Go w.next) (claim_lines place actor (asked_in bytes) w))
    (of_claim (May Ask) (ok Ask) place actor (asked_in bytes) w (λ _. refl))
    (λ none. let first = nothing_first (number_refusal w) (first_of (when (is_some (claim_number w.requests actor)) Busy ∷ first_fault (line_refusal (place_at w place) (asked_in bytes)) 0 (asked_in bytes).lines.count ∷ [])) none in
    (low_number w first.0, λ g. refl)))

-- a command that asks its driver isn't whole
no_whole : (place fd len : ℕ) (command : Command) (w : World) → has_part command Whole ≡ false → command_refusal place fd len command Whole w ≡ None → ⊥
no_whole place fd len command w isnt e =
    let a = kind_refusal place fd (is_for_chips command) w in
    let b = when (nat_lt len (size_of command)) Fault in
    let c = when (not (has_part command Whole)) Inval in
    let one = nothing_first a (first_of (b ∷ c ∷ [])) e in
    let two = nothing_first b (first_of (c ∷ [])) one.1 in
    let three = nothing_first c None two.1 in
    true≢false (sym (ap not isnt) ∙ nothing_when (not (has_part command Whole)) Inval three.0)

acts : (actor place fd len : ℕ) (command : Command) (bytes : List ℕ) (part : Part) (w : World) → (is_get_line (Some command) && is_tell part) ≡ false → command_refusal place fd len command part w ≡ None
    → Answers (Some command) part (act_on actor place fd command bytes part w)
acts actor place fd len ChipInfo bytes part w isnt e = (refl, λ g. not_go g)
acts actor place fd len LineInfo bytes part w isnt e = answers part (Some LineInfo) (info_refusal place bytes w) w _ (of_info (May part) (ok part) place bytes w) (λ _. (refl, λ g. not_go g))
acts actor place fd len Watch bytes part w isnt e =
    let faults = info_refusal place bytes w ∷ watch_refusal (offset_named bytes) (file_at fd w.files) ∷ [] in
    answers part (Some Watch) (first_of faults) w _ (only_of (May part) faults (of_info (May part) (ok part) place bytes w, (of_watch (May part) (ok part) (offset_named bytes) (file_at fd w.files), tt))) (λ _. (refl, λ g. not_go g))
acts actor place fd len Unwatch bytes part w isnt e =
    let faults = when (nat_le (lines_at w place) (number_at 4 0 bytes)) Inval ∷ unwatch_refusal (number_at 4 0 bytes) (file_at fd w.files) ∷ [] in
    answers part (Some Unwatch) (first_of faults) w _
    (only_of (May part) faults (only_when (May part) (nat_le (lines_at w place) (number_at 4 0 bytes)) Inval (λ _. refl), (of_unwatch (May part) (ok part) (number_at 4 0 bytes) (file_at fd w.files), tt))) (λ _. (refl, λ g. not_go g))
acts actor place fd len GetLine bytes Whole w isnt e = absurd (no_whole place fd len GetLine w refl e)
acts actor place fd len GetLine bytes Ask w isnt e = claims actor place bytes w
acts actor place fd len GetLine bytes (Tell answer) w isnt e = absurd (true≢false isnt)
acts actor place fd len SetConfig bytes part w isnt e = on_its_request SetConfig part (set_config place fd bytes part) (request_at w.requests fd) w
    (λ lines settings. answers part (Some SetConfig) (config_refusal place lines bytes w) w _ (of_new_config (May part) (ok part) place lines bytes w (λ _. refl))
    (λ _. asks_and_tells SetConfig part (λ bits v. done (reconfigure place fd lines settings (resolved_for bytes lines.count) bits v)) w refl (λ answer bits. (refl, λ g. not_go g))))
acts actor place fd len GetValues bytes part w isnt e = on_its_request GetValues part (get_values place bytes part) (request_at w.requests fd) w
    (λ lines settings. answers part (Some GetValues) (when (not (has_bit_below lines.count (mask_in bytes))) Inval) w _ (of_mask (May part) (ok part) lines (mask_in bytes))
    (λ _. asks_and_tells GetValues part (λ answered v. writes (values_bytes (values_of place lines (mask_in bytes) answered v) (mask_in bytes)) v) w refl (λ answer bits. (refl, λ g. not_go g))))
acts actor place fd len SetValues bytes part w isnt e = on_its_request SetValues part (set_values place bytes part) (request_at w.requests fd) w
    (λ lines settings. answers part (Some SetValues) (set_values_refusal place lines (mask_in bytes) w) w _ (of_values (May part) (ok part) place lines (mask_in bytes) w)
    (λ _. asks_and_tells SetValues part (λ answered v. done (drive_from place (mask_in bytes) (bits_in bytes) 0 (offsets_of lines) v)) w refl (λ answer bits. (refl, λ g. not_go g))))

checks : (actor place fd len : ℕ) (command : Command) (bytes : List ℕ) (part : Part) (w : World) → (is_get_line (Some command) && is_tell part) ≡ false → Answers (Some command) part (checked actor place fd len command bytes part w)
checks actor place fd len command bytes part w isnt =
    answers part (Some command) (command_refusal place fd len command part w) w (act_on actor place fd command (take (size_of command) bytes) part w)
    (of_command (May part) (ok part) place fd len command part w) (acts actor place fd len command (take (size_of command) bytes) part w isnt)

tells : (answer : Option ℕ) (len : ℕ) (bytes : List ℕ) (o : Option Request) (w : World) → Answers (Some GetLine) (Tell answer) (told_claim answer len bytes o w)
tells answer len bytes None w = (refl, λ g. not_go g)
tells None len bytes (Some request) w = (refl, λ g. not_go g)
tells (Some bits) len bytes (Some request) w = (refl, λ g. not_go g)

parts : (actor place fd len : ℕ) (command : Command) (bytes : List ℕ) (part : Part) (w : World) → Answers (Some command) part (in_part actor place fd len command bytes part w)
parts actor place fd len ChipInfo bytes part w = checks actor place fd len ChipInfo bytes part w refl
parts actor place fd len LineInfo bytes part w = checks actor place fd len LineInfo bytes part w refl
parts actor place fd len Watch bytes part w = checks actor place fd len Watch bytes part w refl
parts actor place fd len Unwatch bytes part w = checks actor place fd len Unwatch bytes part w refl
parts actor place fd len GetLine bytes Whole w = checks actor place fd len GetLine bytes Whole w refl
parts actor place fd len GetLine bytes Ask w = checks actor place fd len GetLine bytes Ask w refl
parts actor place fd len GetLine bytes (Tell answer) w = tells answer len bytes (claim_at place (claim_by w.requests actor)) w
parts actor place fd len SetConfig bytes part w = checks actor place fd len SetConfig bytes part w refl
parts actor place fd len GetValues bytes part w = checks actor place fd len GetValues bytes part w refl
parts actor place fd len SetValues bytes part w = checks actor place fd len SetValues bytes part w refl

numbered : (actor place fd len : ℕ) (command : Option Command) (bytes : List ℕ) (part : Part) (w : World) → Answers command part (by_number actor place fd len command bytes part w)
numbered actor place fd len None bytes part w = (of_unknown (May part) (ok part) place fd w, λ g. not_go g)
numbered actor place fd len (Some command) bytes part w = parts actor place fd len command bytes part w

as_command : (place fd cmd len : ℕ) (bytes : List ℕ) (part : Part) (reply : Reply) → command_fits (command_of cmd) part reply ≡ true → has_form (Ioctl place fd cmd len bytes part) reply ≡ true
as_command place fd cmd len bytes part Done h = h
as_command place fd cmd len bytes part (Number n) h = h
as_command place fd cmd len bytes part (Go n) h = h
as_command place fd cmd len bytes part (Found p offset count) h = h
as_command place fd cmd len bytes part (Text text) h = h
as_command place fd cmd len bytes part (Ready bits) h = h
as_command place fd cmd len bytes part (Refused NoDev) h = h
as_command place fd cmd len bytes part (Refused NoMemory) h = h
as_command place fd cmd len bytes part (Refused Full) h = h
as_command place fd cmd len bytes part (Refused _) h = h

-- the other calls

opens : (word : List ℕ) (o : Option ℕ) (w : World) → Fits (OpenChip word) (open_at o w)
opens word None w = (refl, λ g. not_go g)
opens word (Some place) w =
    let leaving : Bool = is_leaving (phase_at w place) in
    fits (OpenChip word) (λ e h. h) (open_refusal place w) w (numbers w.next (with_file place w))
    (only_of (MayRefuse (OpenChip word)) (when leaving NoDev ∷ number_refusal w ∷ []) (only_when (MayRefuse (OpenChip word)) leaving NoDev (λ _. refl), (of_number (MayRefuse (OpenChip word)) (plain (OpenChip word)) w, tt)))
    (λ none. (low_number w (nothing_first (number_refusal w) None (nothing_first (when leaving NoDev) (first_of (number_refusal w ∷ [])) none).1).0, λ g. not_go g))

finds : (place : Option ℕ) (name : List ℕ) (lines : List (ℕ × ℕ)) (w : World) → Fits (Find place name) (found lines w)
finds place name [] w = (refl, λ g. not_go g)
finds place name (line ∷ lines) w = (refl, λ g. not_go g)

reads_file : (path : List ℕ) (node : Option Node) (w : World) → Fits (Read path) (read_outcome (read_answer node w.tree) w)
reads_file path None w = (refl, λ g. not_go g)
reads_file path (Some (DirectoryNode directory)) w = (refl, λ g. not_go g)
reads_file path (Some (FileNode directory file)) w = elim (row_at directory w.tree) as (λ row. Fits (Read path) (read_outcome (shown_of file row w.tree) w)) [
  | None ↦ (refl, λ g. not_go g)
  | Some row ↦ (refl, λ g. not_go g)
]

polls : (count : ℕ) → (is_ready 0 (Ready (readiness count)) || is_ready 1 (Ready (readiness count))) ≡ true
polls count = elim (count == 0) as (λ b. (is_ready 0 (Ready (cond b 0 1)) || is_ready 1 (Ready (cond b 0 1))) ≡ true) [ true ↦ refl | false ↦ refl ]

bit_is_low : (b : Bool) → nat_lt (bit b) 2 ≡ true
bit_is_low true = refl
bit_is_low false = refl

answered : (w : World) (actor : ℕ) (call : Call) → Fits call (step w actor call)
answered w actor (Probe label lines kind) = fits (Probe label lines kind) (λ e h. h) (when (nat_le PLACES (length w.chips)) NoSpc) w _ (only_when (MayRefuse (Probe label lines kind)) (nat_le PLACES (length w.chips)) NoSpc (λ _. refl))
    (λ none. let low : nat_le PLACES (length w.chips) ≡ false = nothing_when (nat_le PLACES (length w.chips)) NoSpc none in (grind (arith, nat_tests), λ g. not_go g))
answered w actor (Unplug place false) = let call : Call = Unplug place false in fits (Unplug place false) (λ e h. h) (unplug_refusal place w) w _ (of_unplug (MayRefuse (Unplug place false)) (plain (Unplug place false)) refl place w) (λ _. (refl, λ g. not_go g))
answered w actor (Unplug place true) = fits (Unplug place true) (λ e h. h) (when (not (is_unplugging actor w place)) Busy) w _ (only_when (MayRefuse (Unplug place true)) (not (is_unplugging actor w place)) Busy (λ _. refl)) (λ _. (refl, λ g. not_go g))
answered w actor (MakeDir path) = fits (MakeDir path) (λ e h. h) (mkdir_refusal (node_at path) w.tree) w _ (of_mkdir (MayRefuse (MakeDir path)) (plain (MakeDir path)) (node_at path) w.tree) (λ _. (refl, λ g. not_go g))
answered w actor (RemoveDir path) = fits (RemoveDir path) (λ e h. h) (rmdir_refusal (node_at path) w.tree) w _ (of_rmdir (MayRefuse (RemoveDir path)) (plain (RemoveDir path)) (node_at path) w.tree) (λ _. (refl, λ g. not_go g))
answered w actor (Write path value) = fits (Write path value) (λ e h. h) (write_refusal (node_at path) value w.tree) w _ (of_write (MayRefuse (Write path value)) (plain (Write path value)) (node_at path) value w.tree) (λ _. (refl, λ g. not_go g))
answered w actor (Read path) = reads_file path (node_at path) w
answered w actor (Live device) = fits (Live device) (λ e h. h) (live_refusal device (places_left w) w.tree) w _ (of_live (MayRefuse (Live device)) (plain (Live device)) device (places_left w) w.tree) (λ _. (refl, λ g. not_go g))
answered w actor (Remove device false) = fits (Remove device false) (λ e h. h) (remove_refusal device w.tree) w _ (of_remove (MayRefuse (Remove device false)) (plain (Remove device false)) device w.tree) (λ _. (refl, λ g. not_go g))
answered w actor (Remove device true) = fits (Remove device true) (λ e h. h) (when (length (removed_places device actor w) == 0) Busy) w _ (only_when (MayRefuse (Remove device true)) (length (removed_places device actor w) == 0) Busy (λ _. refl)) (λ _. (refl, λ g. not_go g))
answered w actor (Tick mono real) = fits (Tick mono real) (λ e h. h) (clock_refusal mono real w) w _ (of_clock (MayRefuse (Tick mono real)) (plain (Tick mono real)) mono real w) (λ _. (refl, λ g. not_go g))
answered w actor (Pin place what) =
    let refusal = pin_refusal (lines_at w place) (place_at w place) what in
    fits (Pin place what) (λ e h. h) (first_of (place_refusal place w ∷ refusal ∷ [])) w _
    (only_of (MayRefuse (Pin place what)) (place_refusal place w ∷ refusal ∷ []) (at_place (MayRefuse (Pin place what)) (plain (Pin place what)) place w, (of_pins (MayRefuse (Pin place what)) (plain (Pin place what)) (lines_at w place) (place_at w place) what, tt)))
    (λ _. (refl, λ g. not_go g))
answered w actor (Irq place offset what) =
    let refusal = act_refusal (place_at w place).irqs offset what (irq_line (place_at w place) offset) in
    fits (Irq place offset what) (λ e h. h) (first_of (place_refusal place w ∷ refusal ∷ [])) w _
    (only_of (MayRefuse (Irq place offset what)) (place_refusal place w ∷ refusal ∷ []) (
      at_place (MayRefuse (Irq place offset what)) (plain (Irq place offset what)) place w,
      (of_interrupts (MayRefuse (Irq place offset what)) (plain (Irq place offset what)) refl (place_at w place).irqs offset what (irq_line (place_at w place) offset), tt),
    ))
    (λ _. (refl, λ g. not_go g))
answered w actor (Pull place offset up) = fits (Pull place offset up) (λ e h. h) (level_refusal place offset (is_simulated (kind_at w place)) w) w _ (of_levels (MayRefuse (Pull place offset up)) (plain (Pull place offset up)) place offset (is_simulated (kind_at w place)) w) (λ _. (refl, λ g. not_go g))
answered w actor (Level place offset pull) = fits (Level place offset pull) (λ e h. h) (level_refusal place offset (is_simulated (kind_at w place)) w) w _ (of_levels (MayRefuse (Level place offset pull)) (plain (Level place offset pull)) place offset (is_simulated (kind_at w place)) w)
    (λ _. (bit_is_low (cond pull (levels_at (place_at w place).bank offset).pull (level (levels_at (place_at w place).bank offset))), λ g. not_go g))
answered w actor (Interrupt place offset up) = fits (Interrupt place offset up) (λ e h. h) (level_refusal place offset (not (is_simulated (kind_at w place))) w) w _ (of_levels (MayRefuse (Interrupt place offset up)) (plain (Interrupt place offset up)) place offset (not (is_simulated (kind_at w place))) w) (λ _. (refl, λ g. not_go g))
answered w actor (OpenChip word) = opens word (place_of_word w.chips word) w
answered w actor (Find place name) = finds place name (flat_map (named_at name w) (searched place w)) w
answered w actor (Ioctl place fd cmd len bytes part) =
    let h = numbered actor place fd len (command_of cmd) bytes part w in
    (as_command place fd cmd len bytes part (by_number actor place fd len (command_of cmd) bytes part w).reply h.0, h.1)
answered w actor (ReadEdges place fd len) =
    let faults = request_file_refusal place fd w ∷ read_refusal LINE_EVENT_SIZE len (length (events_for fd w)) ∷ [] in
    fits (ReadEdges place fd len) (λ e h. h) (first_of faults) w _
    (only_of (MayRefuse (ReadEdges place fd len)) faults (of_request_file (MayRefuse (ReadEdges place fd len)) (plain (ReadEdges place fd len)) place fd w, (of_reads (MayRefuse (ReadEdges place fd len)) (plain (ReadEdges place fd len)) LINE_EVENT_SIZE len (length (events_for fd w)), tt)))
    (λ _. (refl, λ g. not_go g))
answered w actor (ReadInfo place fd len) =
    let faults = chip_file_refusal place fd w ∷ read_refusal INFO_CHANGED_SIZE len (length (changes_for fd w)) ∷ [] in
    fits (ReadInfo place fd len) (λ e h. h) (first_of faults) w _
    (only_of (MayRefuse (ReadInfo place fd len)) faults (of_chip_file (MayRefuse (ReadInfo place fd len)) (plain (ReadInfo place fd len)) place fd w, (of_reads (MayRefuse (ReadInfo place fd len)) (plain (ReadInfo place fd len)) INFO_CHANGED_SIZE len (length (changes_for fd w)), tt)))
    (λ _. (refl, λ g. not_go g))
answered w actor (PollLine place fd) = fits (PollLine place fd) (λ e h. h) (request_file_refusal place fd w) w _ (of_request_file (MayRefuse (PollLine place fd)) (plain (PollLine place fd)) place fd w) (λ _. (polls (length (events_for fd w)), λ g. not_go g))
answered w actor (PollChip place fd) = fits (PollChip place fd) (λ e h. h) (chip_file_refusal place fd w) w _ (of_chip_file (MayRefuse (PollChip place fd)) (plain (PollChip place fd)) place fd w) (λ _. (polls (length (changes_for fd w)), λ g. not_go g))
answered w actor (Close fd) = fits (Close fd) (λ e h. h) (when (not (is_open fd w)) BadF) w _ (only_when (MayRefuse (Close fd)) (not (is_open fd w)) BadF (λ _. refl)) (λ _. (refl, λ g. not_go g))
answered w actor (RefusedCall place true) = (refl, λ g. not_go g)
answered w actor (RefusedCall place false) = (refl, λ g. not_go g)

-- what a refusal's form says of its error
no_dev_is_told : (call : Call) (reply : Reply) → has_form call reply ≡ true → reply ≡ Refused NoDev → tells_of_gone call ≡ true
no_dev_is_told call reply h is = told call (subst (λ r. has_form call r ≡ true) is h)
  where
    told : (call : Call) → has_form call (Refused NoDev) ≡ true → tells_of_gone call ≡ true
    told (RefusedCall place poll) h = refl
    told _ h = h

no_memory_of : (call : Call) → has_form call (Refused NoMemory) ≡ true → ⊥
no_memory_of (RefusedCall place true) h = false≢true h
no_memory_of (RefusedCall place false) h = false≢true h
no_memory_of _ h = false≢true h

full_of : (call : Call) → has_form call (Refused Full) ≡ true → ⊥
full_of (RefusedCall place true) h = false≢true h
full_of (RefusedCall place false) h = false≢true h
full_of _ h = false≢true h

pub replies_have_form : RepliesHaveForm
replies_have_form = record {
  form = λ w actor call. (answered w actor call).0;
  no_dev = λ w actor call is. no_dev_is_told call (step w actor call).reply (answered w actor call).0 is;
  no_memory = λ w actor call is. no_memory_of call (subst (λ r. has_form call r ≡ true) is (answered w actor call).0);
  not_full = λ w actor call is. full_of call (subst (λ r. has_form call r ≡ true) is (answered w actor call).0);
  go_writes_nothing = λ w actor call n is. (answered w actor call).1 (ap is_go is);
}

module _ {K : Type 0} (stands_for : K → World → Type 0) where
  entries_answered : (w : World) (history : List (Entry K Call Reply Gift)) → AnsweredFrom (machine stands_for) w history → Each (λ (e : Entry K Call Reply Gift). has_form e.call e.reply ≡ true) history
  entries_answered w [] h = tt
  entries_answered w (e ∷ history) h = (subst (λ r. has_form e.call r ≡ true) (sym h.0) (answered w e.actor e.call).0, entries_answered (step w e.actor e.call).world history h.2)

  pub entries_have_form : EntriesHaveForm stands_for
  entries_have_form = always stands_for (λ history. Each (λ (e : Entry K Call Reply Gift). has_form e.call e.reply ≡ true) history) (λ history legal. entries_answered opening history legal.0)
