-- What stays true of the requests of a world, whatever call is made: it has to stay true of each change that a call makes.
use Rattle.std.proofs.Common.{◌||◌, ◌≡◌, ◌+◌, ℕ, List, [], ◌∷◌, ◌++◌, length, refl, sym, Bool, true, false, cond, Option, Some, None, subst}
use Rattle.std.specs.Prelude.{◌/◌, Result, Ok, Err, flat_map, not, take, ◌==◌}
use Rattle.gl_attrs.specs.Setting.{resolved_for}
use Rattle.gl_bank.specs.Level.{first_levels, flipped, levels_at, pulled}
use Rattle.gl_bank.specs.declared.levels.Change.{Change}
use Rattle.gl_bank.specs.declared.levels.Levels.{Levels}
use Rattle.gl_base.specs.Bits.{has_bit}
use Rattle.gl_base.specs.Lines.{offsets_of}
use Rattle.gl_base.specs.Positions.{change_at}
use Rattle.gl_base.specs.Refusals.{first_of, when}
use Rattle.gl_base.specs.Rows.{change_first, without_first}
use Rattle.gl_base.specs.declared.errno.Errno.{Errno}
use Rattle.gl_base.specs.declared.errno.Errno.TheVariants.{BadF, Inval}
use Rattle.gl_base.specs.declared.lines.Lines.{Lines}
use Rattle.gl_base.specs.declared.settings.Resolved.{Resolved}
use Rattle.gl_debounce.specs.Fire.{fires}
use Rattle.gl_debounce.specs.Timer.{hard_at, settled_at_raw, with_raw, with_timer}
use Rattle.gl_debounce.specs.declared.timer.Fired.{Fired}
use Rattle.gl_desc.specs.Desc.{settled}
use Rattle.gl_registry.specs.Chips.{place_of_word}
use Rattle.gl_simtree.specs.Calls.{read_answer}
use Rattle.gl_simtree.specs.Nodes.{node_at}
use Rattle.gl_uapi.specs.Command.{command_of, size_of}
use Rattle.gl_uapi.specs.LineValues.{values_bytes}
use Rattle.gl_uapi.specs.declared.commands.Command.{Command}
use Rattle.gl_uapi.specs.declared.commands.Command.TheVariants.{ChipInfo, LineInfo, Watch, Unwatch, GetLine, SetConfig, GetValues, SetValues}
use Rattle.gl_uapi.specs.declared.layout.TheConstants.{CHANGED_CONFIG, CHANGED_RELEASED, CHANGED_REQUESTED, LINE_EVENT_SIZE}
use Rattle.gl_watch.specs.Files.{is_file}
use Rattle.gl_model.specs.declared.call.Call.{Call}
use Rattle.gl_model.specs.declared.call.Call.TheVariants.{Probe, Unplug, MakeDir, RemoveDir, Write, Read, Live, Remove, Tick, Pin, Irq, Pull, Level, Interrupt, OpenChip, Find, Ioctl, ReadEdges, ReadInfo, PollLine, PollChip, Close, Refused as RefusedCall}
use Rattle.gl_model.specs.declared.call.Part.{Part}
use Rattle.gl_model.specs.declared.call.Part.TheVariants.{Whole, Ask, Tell}
use Rattle.gl_model.specs.declared.reply.Reply.TheVariants.{Go}
use Rattle.gl_model.specs.AskedLines.{asked_in, request_fault}
use Rattle.gl_model.specs.Claiming.{claim, claim_at, claim_by, claim_lines, claim_refusal, held, hold_claim, new_claim, told_claim, with_descs}
use Rattle.gl_model.specs.Clock.{clock_refusal, fire, settle, settle_each, tick}
use Rattle.gl_model.specs.Configuring.{configure, configure_each, configure_from, settings_of, with_levels, config_refusal, is_directed, reconfigure, reconfigure_from, set_config, settings_after, with_settings}
use Rattle.gl_model.specs.Edges.{deadline_of, edge, edge_for, event_time, raw_edge, raw_edge_for, input_holder, with_edge}
use Rattle.gl_model.specs.Ioctl.{act_on, by_number, checked, in_part}
use Rattle.gl_model.specs.Notify.{notify, notify_each}
use Rattle.gl_model.specs.Opening.{close, close_request, found, is_open, named_at, open_at, searched, without_request}
use Rattle.gl_model.specs.OpenFiles.{command_refusal, in_parts, on_request, request_file_refusal}
use Rattle.gl_model.specs.Outcome.{Outcome, done, replies, refused_or, writes}
use Rattle.gl_model.specs.Places.{kind_at, place_at, with_place}
use Rattle.gl_model.specs.Bits.{has_bit_below}
use Rattle.gl_model.specs.Pulls.{is_simulated, level_refusal, pull, pull_change, pull_line}
use Rattle.gl_model.specs.Reading.{events_for, read_from, read_refusal, take_events}
use Rattle.gl_model.specs.Step.{step}
use Rattle.gl_model.specs.Tree.{read_outcome}
use Rattle.gl_model.specs.Values.{bits_in, drive_from, driven_with, get_values, mask_in, set_values, set_values_refusal, values_of}
use Rattle.gl_model.specs.Entries.{is_get_line, is_get_line_call}
use Rattle.gl_model.specs.World.{World, Request, has_number, request_at}
use Rattle.gl_model.proofs.Phases.{some_none}
use Rattle.std.proofs.lemmas.Bool.{true≢false}

pub claim_by_any : (place : ℕ) (o : Option Request) (request : Request) → claim_at place o ≡ Some request → o ≡ Some request
claim_by_any place None request e = e
claim_by_any place (Some x) request e = elim (x.place == place) as (λ b. cond b (Some x) None ≡ Some request → Some x ≡ Some request) [
  | true ↦ (λ h. h)
  | false ↦ (λ h. absurd (some_none request (sym h)))
] e

-- the call is a read of events
abbrev pub is_read_call : Call → Bool
is_read_call (ReadEdges place fd len) = true
is_read_call _ = false

-- `Before` is what is known of the world in which the call is made, and `May` of the actor where the call is a GET_LINE
module _
    (P : List Request → Type 0)
    (Before : World → Type 0)
    (May : ℕ → Type 0)
    (edges : (fd offset : ℕ) (rising : Bool) (timestamp : ℕ) (rows : List Request) → P rows → P (change_first (has_number fd) (with_edge offset rising timestamp) rows))
    (settings_set : (fd : ℕ) (settings : Resolved → Resolved) (rows : List Request) → P rows → P (change_first (has_number fd) (λ request. record request { settings = settings request.settings }) rows))
    (finished : (w : World) (actor : ℕ) (request : Request) → Before w → May actor → claim_by w.requests actor ≡ Some request
    → P w.requests → P (change_first (has_number request.fd) held w.requests))
    (dropped : (w : World) (actor : ℕ) (request : Request) → Before w → May actor → claim_by w.requests actor ≡ Some request
    → P w.requests → P (without_first (has_number request.fd) w.requests))
    (closed : (w : World) (fd : ℕ) (request : Request) → Before w → is_open fd w ≡ true → request_at w.requests fd ≡ Some request
    → P w.requests → P (without_first (has_number request.fd) w.requests))
    (claimed : (place actor : ℕ) (bytes : List ℕ) (w : World) → Before w → May actor → request_fault bytes ≡ None → claim_refusal place actor (asked_in bytes) w ≡ None
    → P w.requests → P (w.requests ++ new_claim w.next place actor (asked_in bytes) ∷ []))
  where
    abbrev Keeps : World → World → Type 0
    Keeps w v = P w.requests → P v.requests

    as_was : (w : World) → Keeps w w
    as_was w p = p

    then : (w v u : World) → Keeps w v → Keeps v u → Keeps w u
    then w v u h k p = k (h p)

    keeps_unless : (r : Option Errno) (w : World) (out : Outcome) → (r ≡ None → Keeps w out.world) → Keeps w (refused_or r w out).world
    keeps_unless None w out h = h refl
    keeps_unless (Some e) w out h = λ p. p

    keeps_else : (r : Option Errno) (w : World) (out : Outcome) → Keeps w out.world → Keeps w (refused_or r w out).world
    keeps_else None w out h = h
    keeps_else (Some e) w out h = λ p. p

    either : (b : Bool) (v u w : World) → Keeps w v → Keeps w u → Keeps w (cond b v u)
    either true v u w h k = h
    either false v u w h k = k

    -- the requests stay as they are
    stay : (r : Option Errno) (w : World) (out : Outcome) → out.world.requests ≡ w.requests → (refused_or r w out).world.requests ≡ w.requests
    stay None w out h = h
    stay (Some e) w out h = refl

    stayed : (w v : World) → v.requests ≡ w.requests → Keeps w v
    stayed w v e p = subst P (sym e) p

    -- edges

    edge_for_keep : (o : Option ℕ) (offset : ℕ) (line : Levels) (up : Bool) (mono : ℕ) (w : World) → Keeps w (edge_for o offset line up mono w)
    edge_for_keep None offset line up mono w = as_was w
    edge_for_keep (Some fd) offset line up mono w = edges fd offset (flipped line.flags up) (event_time line.flags mono w.real) w.requests

    edge_keep : (place offset : ℕ) (up : Bool) (mono : ℕ) (w : World) → Keeps w (edge place offset up mono w)
    edge_keep place offset up mono w = edge_for_keep (input_holder (place_at w place) offset) offset (levels_at (place_at w place).bank offset) up mono w

    raw_edge_for_keep : (o : Option ℕ) (place offset : ℕ) (up : Bool) (w : World) → Keeps w (raw_edge_for o place offset up w)
    raw_edge_for_keep None place offset up w = as_was w
    raw_edge_for_keep (Some fd) place offset up w =
        let line : Levels = levels_at (place_at w place).bank offset in
        either (line.debounce_us == 0 || hard_at w.timers place offset) (edge place offset up w.mono w) (record w { timers = with_timer (with_raw up (deadline_of line w.mono)) place offset w.timers }) w (edge_keep place offset up w.mono w) (as_was w)

    raw_edge_keep : (place offset : ℕ) (o : Option Change) (w : World) → Keeps w (raw_edge place offset o w)
    raw_edge_keep place offset None w = as_was w
    raw_edge_keep place offset (Some change) w = raw_edge_for_keep (input_holder (place_at w place) offset) place offset change.rose w

    settle_keep : (line : Fired) (w : World) → Keeps w (settle line w)
    settle_keep line w =
        let settled : World = record w { timers = with_timer settled_at_raw line.place line.offset w.timers } in
        either line.changed (edge line.place line.offset line.level line.deadline settled) settled w (edge_keep line.place line.offset line.level line.deadline settled) (as_was w)

    settle_each_keep : (lines : List Fired) (w : World) → Keeps w (settle_each lines w)
    settle_each_keep [] w = as_was w
    settle_each_keep (line ∷ lines) w = then w (settle line w) (settle_each lines (settle line w)) (settle_keep line w) (settle_each_keep lines (settle line w))

    tick_keep : (mono real : ℕ) (w : World) → Keeps w (tick mono real w).world
    tick_keep mono real w = keeps_else (clock_refusal mono real w) w (done (fire (record w { mono = mono; real = real }))) (settle_each_keep (fires mono w.timers) (record w { mono = mono; real = real }))

    -- what is told, configured and driven

    notify_each_keep : (place : ℕ) (offsets : List ℕ) (kind : ℕ) (w : World) → Keeps w (notify_each place offsets kind w)
    notify_each_keep place [] kind w = as_was w
    notify_each_keep place (offset ∷ offsets) kind w = notify_each_keep place offsets kind (notify place offset kind w)

    configure_from_keep : (place : ℕ) (settings : Resolved) (bits i : ℕ) (offsets : List ℕ) (w : World) → Keeps w (configure_from place settings bits i offsets w)
    configure_from_keep place settings bits i [] w = as_was w
    configure_from_keep place settings bits i (offset ∷ offsets) w = configure_from_keep place settings bits (i + 1) offsets (configure place (settings_of settings i) (has_bit bits i) offset w)

    reconfigure_from_keep : (place : ℕ) (settings : Resolved) (bits i : ℕ) (offsets : List ℕ) (w : World) → Keeps w (reconfigure_from place settings bits i offsets w)
    reconfigure_from_keep place settings bits i [] w = as_was w
    reconfigure_from_keep place settings bits i (offset ∷ offsets) w =
        let next : World = cond (is_directed settings i) (notify place offset CHANGED_CONFIG (configure place (settings_of settings i) (has_bit bits i) offset w)) w in
        then w next (reconfigure_from place settings bits (i + 1) offsets next) (either (is_directed settings i) (notify place offset CHANGED_CONFIG (configure place (settings_of settings i) (has_bit bits i) offset w)) w w (as_was w) (as_was w)) (reconfigure_from_keep place settings bits (i + 1) offsets next)

    drive_from_keep : (place mask bits i : ℕ) (offsets : List ℕ) (w : World) → Keeps w (drive_from place mask bits i offsets w)
    drive_from_keep place mask bits i [] w = as_was w
    drive_from_keep place mask bits i (offset ∷ offsets) w =
        let next : World = cond (has_bit mask i) (with_place place (with_levels offset (driven_with (has_bit bits i))) w) w in
        then w next (drive_from place mask bits (i + 1) offsets next) (either (has_bit mask i) (with_place place (with_levels offset (driven_with (has_bit bits i))) w) w w (as_was w) (as_was w)) (drive_from_keep place mask bits (i + 1) offsets next)

    -- commands

    in_parts_keep : (part : Part) (act : ℕ → World → Outcome) (w : World) → ((bits : ℕ) → Keeps w (act bits w).world) → Keeps w (in_parts part act w).world
    in_parts_keep Whole act w h = as_was w
    in_parts_keep Ask act w h = as_was w
    in_parts_keep (Tell None) act w h = as_was w
    in_parts_keep (Tell (Some bits)) act w h = h bits

    on_request_keep : (act : Lines → Resolved → World → Outcome) (o : Option Request) (w : World) → ((lines : Lines) (settings : Resolved) → Keeps w (act lines settings w).world) → Keeps w (on_request act o w).world
    on_request_keep act None w h = as_was w
    on_request_keep act (Some request) w h = h request.lines request.settings

    set_config_keep : (place fd : ℕ) (bytes : List ℕ) (part : Part) (lines : Lines) (settings : Resolved) (w : World) → Keeps w (set_config place fd bytes part lines settings w).world
    set_config_keep place fd bytes part lines settings w =
        let after : Resolved = resolved_for bytes lines.count in
        let set : World = record w { requests = change_first (has_number fd) (with_settings (settings_after settings after lines.count)) w.requests } in
        let act : ℕ → World → Outcome = λ bits v. done (reconfigure place fd lines settings after bits v) in
        keeps_else (config_refusal place lines bytes w) w (in_parts part act w) (in_parts_keep part act w (λ bits. then w set (reconfigure_from place after bits 0 (offsets_of lines) set)
        (settings_set fd (λ before. settings_after settings after lines.count) w.requests)
        (reconfigure_from_keep place after bits 0 (offsets_of lines) set)))

    get_values_keep : (place : ℕ) (bytes : List ℕ) (part : Part) (lines : Lines) (settings : Resolved) (w : World) → Keeps w (get_values place bytes part lines settings w).world
    get_values_keep place bytes part lines settings w =
        let act : ℕ → World → Outcome = λ answered v. writes (values_bytes (values_of place lines (mask_in bytes) answered v) (mask_in bytes)) v in
        keeps_else (when (not (has_bit_below lines.count (mask_in bytes))) Inval) w (in_parts part act w) (in_parts_keep part act w (λ bits. as_was w))

    set_values_keep : (place : ℕ) (bytes : List ℕ) (part : Part) (lines : Lines) (settings : Resolved) (w : World) → Keeps w (set_values place bytes part lines settings w).world
    set_values_keep place bytes part lines settings w =
        let act : ℕ → World → Outcome = λ answered v. done (drive_from place (mask_in bytes) (bits_in bytes) 0 (offsets_of lines) v) in
        keeps_else (set_values_refusal place lines (mask_in bytes) w) w (in_parts part act w) (in_parts_keep part act w (λ bits. drive_from_keep place (mask_in bytes) (bits_in bytes) 0 (offsets_of lines) w))

    told_claim_keep : (actor place : ℕ) (answer : Option ℕ) (len : ℕ) (bytes : List ℕ) (o : Option Request) (w : World) → Before w → May actor
        → claim_at place (claim_by w.requests actor) ≡ o → Keeps w (told_claim answer len bytes o w).world
    told_claim_keep actor place answer len bytes None w before may e = as_was w
    told_claim_keep actor place None len bytes (Some request) w before may e = dropped w actor request before may (claim_by_any place (claim_by w.requests actor) request e)
    told_claim_keep actor place (Some bits) len bytes (Some request) w before may e =
        let offsets : List ℕ = offsets_of request.lines in
        let lines_held : World = with_place request.place (with_descs offsets settled) (record w { requests = change_first (has_number request.fd) held w.requests }) in
        let set : World = configure_each request.place request.lines request.settings bits lines_held in
        then w lines_held (hold_claim bits request w) (finished w actor request before may (claim_by_any place (claim_by w.requests actor) request e))
        (then lines_held set (hold_claim bits request w) (configure_from_keep request.place request.settings bits 0 offsets lines_held) (notify_each_keep request.place offsets CHANGED_REQUESTED set))

    act_on_keeps : (actor place fd : ℕ) (command : Command) (bytes : List ℕ) (part : Part) (w : World) → Before w → (is_get_line (Some command) ≡ true → May actor)
        → Keeps w (act_on actor place fd command bytes part w).world
    act_on_keeps actor place fd ChipInfo bytes part w before may = λ p. p
    act_on_keeps actor place fd LineInfo bytes part w before may = (stayed w (act_on actor place fd LineInfo bytes part w).world (stay _ w _ refl))
    act_on_keeps actor place fd Watch bytes part w before may = (stayed w (act_on actor place fd Watch bytes part w).world (stay _ w _ refl))
    act_on_keeps actor place fd Unwatch bytes part w before may = (stayed w (act_on actor place fd Unwatch bytes part w).world (stay _ w _ refl))
    act_on_keeps actor place fd GetLine bytes part w before may = keeps_unless (request_fault bytes) w (claim place actor (asked_in bytes) w) (λ f. keeps_unless (claim_refusal place actor (asked_in bytes) w) w (replies (Go w.next) (claim_lines place actor (asked_in bytes) w)) (λ e. claimed place actor bytes w before (may refl) f e))
    act_on_keeps actor place fd SetConfig bytes part w before may = (on_request_keep (set_config place fd bytes part) (request_at w.requests fd) w (λ lines settings. set_config_keep place fd bytes part lines settings w))
    act_on_keeps actor place fd GetValues bytes part w before may = (on_request_keep (get_values place bytes part) (request_at w.requests fd) w (λ lines settings. get_values_keep place bytes part lines settings w))
    act_on_keeps actor place fd SetValues bytes part w before may = (on_request_keep (set_values place bytes part) (request_at w.requests fd) w (λ lines settings. set_values_keep place bytes part lines settings w))

    checked_keeps : (actor place fd len : ℕ) (command : Command) (bytes : List ℕ) (part : Part) (w : World) → Before w → (is_get_line (Some command) ≡ true → May actor)
        → Keeps w (checked actor place fd len command bytes part w).world
    checked_keeps actor place fd len command bytes part w before may = keeps_unless (command_refusal place fd len command part w) w (act_on actor place fd command (take (size_of command) bytes) part w) (λ e. act_on_keeps actor place fd command (take (size_of command) bytes) part w before may)

    in_part_keeps : (actor place fd len : ℕ) (command : Command) (bytes : List ℕ) (part : Part) (w : World) → Before w → (is_get_line (Some command) ≡ true → May actor)
        → Keeps w (in_part actor place fd len command bytes part w).world
    in_part_keeps actor place fd len ChipInfo bytes part w before may = checked_keeps actor place fd len ChipInfo bytes part w before may
    in_part_keeps actor place fd len LineInfo bytes part w before may = checked_keeps actor place fd len LineInfo bytes part w before may
    in_part_keeps actor place fd len Watch bytes part w before may = checked_keeps actor place fd len Watch bytes part w before may
    in_part_keeps actor place fd len Unwatch bytes part w before may = checked_keeps actor place fd len Unwatch bytes part w before may
    in_part_keeps actor place fd len GetLine bytes Whole w before may = checked_keeps actor place fd len GetLine bytes Whole w before may
    in_part_keeps actor place fd len GetLine bytes Ask w before may = checked_keeps actor place fd len GetLine bytes Ask w before may
    in_part_keeps actor place fd len GetLine bytes (Tell answer) w before may = told_claim_keep actor place answer len bytes (claim_at place (claim_by w.requests actor)) w before (may refl) refl
    in_part_keeps actor place fd len SetConfig bytes part w before may = checked_keeps actor place fd len SetConfig bytes part w before may
    in_part_keeps actor place fd len GetValues bytes part w before may = checked_keeps actor place fd len GetValues bytes part w before may
    in_part_keeps actor place fd len SetValues bytes part w before may = checked_keeps actor place fd len SetValues bytes part w before may

    by_number_keeps : (actor place fd len : ℕ) (command : Option Command) (bytes : List ℕ) (part : Part) (w : World) → Before w → (is_get_line command ≡ true → May actor)
        → Keeps w (by_number actor place fd len command bytes part w).world
    by_number_keeps actor place fd len None bytes part w before may = λ p. p
    by_number_keeps actor place fd len (Some command) bytes part w before may = in_part_keeps actor place fd len command bytes part w before may

    -- the other calls

    open_at_keep : (o : Option ℕ) (w : World) → Keeps w (open_at o w).world
    open_at_keep None w = as_was w
    open_at_keep (Some place) w = stayed w (open_at (Some place) w).world (stay _ w _ refl)

    found_keep : (lines : List (ℕ × ℕ)) (w : World) → Keeps w (found lines w).world
    found_keep [] w = as_was w
    found_keep (line ∷ lines) w = as_was w

    read_outcome_keep : (r : Result (List ℕ) Errno) (w : World) → Keeps w (read_outcome r w).world
    read_outcome_keep (Ok text) w = as_was w
    read_outcome_keep (Err errno) w = as_was w

    close_request_keep : (fd : ℕ) (o : Option Request) (w v : World) → v.requests ≡ w.requests → Before w → is_open fd w ≡ true → request_at w.requests fd ≡ o → Keeps w (close_request o v)
    close_request_keep fd None w v same before is e = stayed w v same
    close_request_keep fd (Some request) w v same before is e =
        then w (without_request request v) (close_request (Some request) v) (λ p. subst (λ rows. P (without_first (has_number request.fd) rows)) (sym same) (closed w fd request before is e p))
        (notify_each_keep request.place (offsets_of request.lines) CHANGED_RELEASED (without_request request v))

    is_open_there : (b : Bool) → when (not b) BadF ≡ None → b ≡ true
    is_open_there true e = refl
    is_open_there false e = absurd (some_none BadF e)

    close_keep : (fd : ℕ) (w : World) → Before w → Keeps w (close fd w).world
    close_keep fd w before =
        let without : World = record w { files = without_first (is_file fd) w.files } in
        keeps_unless (when (not (is_open fd w)) BadF) w (done (close_request (request_at w.requests fd) without))
        (λ e. close_request_keep fd (request_at w.requests fd) w without refl before (is_open_there (is_open fd w) e) refl)

    pull_line_keep : (place offset : ℕ) (up : Bool) (w : World) → Keeps w (pull_line place offset up w)
    pull_line_keep place offset up w =
        raw_edge_keep place offset (pull_change up (levels_at (place_at w place).bank offset))
        (with_place place (λ tables. record tables { bank = change_at first_levels offset (pulled up) tables.bank }) w)

    calm : (w : World) (actor : ℕ) (call : Call) → (step w actor call).world.requests ≡ w.requests → Keeps w (step w actor call).world
    calm w actor call e = (stayed w (step w actor call).world e)

    -- a call that isn't a read of events
    pub others_keep : (w : World) (actor : ℕ) (call : Call) → is_read_call call ≡ false → Before w → (is_get_line_call call ≡ true → May actor) → Keeps w (step w actor call).world
    others_keep w actor (Probe label lines kind) other before may = calm w actor (Probe label lines kind) (stay _ w _ refl)
    others_keep w actor (Unplug place false) other before may = calm w actor (Unplug place false) (stay _ w _ refl)
    others_keep w actor (Unplug place true) other before may = calm w actor (Unplug place true) (stay _ w _ refl)
    others_keep w actor (MakeDir path) other before may = calm w actor (MakeDir path) (stay _ w _ refl)
    others_keep w actor (RemoveDir path) other before may = calm w actor (RemoveDir path) (stay _ w _ refl)
    others_keep w actor (Write path value) other before may = calm w actor (Write path value) (stay _ w _ refl)
    others_keep w actor (Read path) other before may = (read_outcome_keep (read_answer (node_at path) w.tree) w)
    others_keep w actor (Live device) other before may = calm w actor (Live device) (stay _ w _ refl)
    others_keep w actor (Remove device false) other before may = calm w actor (Remove device false) (stay _ w _ refl)
    others_keep w actor (Remove device true) other before may = calm w actor (Remove device true) (stay _ w _ refl)
    others_keep w actor (Tick mono real) other before may = (tick_keep mono real w)
    others_keep w actor (Pin place what) other before may = calm w actor (Pin place what) (stay _ w _ refl)
    others_keep w actor (Irq place offset what) other before may = calm w actor (Irq place offset what) (stay _ w _ refl)
    others_keep w actor (Pull place offset up) other before may = (keeps_else (level_refusal place offset (is_simulated (kind_at w place)) w) w (done (pull_line place offset up w)) (pull_line_keep place offset up w))
    others_keep w actor (Level place offset pull) other before may = calm w actor (Level place offset pull) (stay _ w _ refl)
    others_keep w actor (Interrupt place offset up) other before may = (keeps_else (level_refusal place offset (not (is_simulated (kind_at w place))) w) w (done (pull_line place offset up w)) (pull_line_keep place offset up w))
    others_keep w actor (OpenChip word) other before may = (open_at_keep (place_of_word w.chips word) w)
    others_keep w actor (Find place name) other before may = (found_keep (flat_map (named_at name w) (searched place w)) w)
    others_keep w actor (Ioctl place fd cmd len bytes part) other before may = by_number_keeps actor place fd len (command_of cmd) bytes part w before may
    others_keep w actor (ReadEdges place fd len) other before may = absurd (true≢false other)
    others_keep w actor (ReadInfo place fd len) other before may = calm w actor (ReadInfo place fd len) (stay _ w _ refl)
    others_keep w actor (PollLine place fd) other before may = calm w actor (PollLine place fd) (stay _ w _ refl)
    others_keep w actor (PollChip place fd) other before may = calm w actor (PollChip place fd) (stay _ w _ refl)
    others_keep w actor (Close fd) other before may = close_keep fd w before
    others_keep w actor (RefusedCall place poll) other before may = λ p. p

-- the same for every call, where a read keeps it too
module _
    (P : List Request → Type 0)
    (Before : World → Type 0)
    (May : ℕ → Type 0)
    (edges : (fd offset : ℕ) (rising : Bool) (timestamp : ℕ) (rows : List Request) → P rows → P (change_first (has_number fd) (with_edge offset rising timestamp) rows))
    (settings_set : (fd : ℕ) (settings : Resolved → Resolved) (rows : List Request) → P rows → P (change_first (has_number fd) (λ request. record request { settings = settings request.settings }) rows))
    (reads : (fd max : ℕ) (rows : List Request) → P rows → P (change_first (has_number fd) (read_from max) rows))
    (finished : (w : World) (actor : ℕ) (request : Request) → Before w → May actor → claim_by w.requests actor ≡ Some request
    → P w.requests → P (change_first (has_number request.fd) held w.requests))
    (dropped : (w : World) (actor : ℕ) (request : Request) → Before w → May actor → claim_by w.requests actor ≡ Some request
    → P w.requests → P (without_first (has_number request.fd) w.requests))
    (closed : (w : World) (fd : ℕ) (request : Request) → Before w → is_open fd w ≡ true → request_at w.requests fd ≡ Some request
    → P w.requests → P (without_first (has_number request.fd) w.requests))
    (claimed : (place actor : ℕ) (bytes : List ℕ) (w : World) → Before w → May actor → request_fault bytes ≡ None → claim_refusal place actor (asked_in bytes) w ≡ None
    → P w.requests → P (w.requests ++ new_claim w.next place actor (asked_in bytes) ∷ []))
  where
    reads_keep : (r : Option Errno) (fd len : ℕ) (w : World) → P w.requests → P (refused_or r w (take_events fd len w)).world.requests
    reads_keep None fd len w p = reads fd (len / LINE_EVENT_SIZE) w.requests p
    reads_keep (Some e) fd len w p = p

    pub world_keeps : (w : World) (actor : ℕ) (call : Call) → Before w → (is_get_line_call call ≡ true → May actor) → P w.requests → P (step w actor call).world.requests
    world_keeps w actor (ReadEdges place fd len) before may = reads_keep (first_of (request_file_refusal place fd w ∷ read_refusal LINE_EVENT_SIZE len (length (events_for fd w)) ∷ [])) fd len w
    world_keeps w actor call before may = others_keep P Before May edges settings_set finished dropped closed claimed w actor call refl before may

-- the same where nothing is known of the world or of the actor
module _
    (P : List Request → Type 0)
    (edges : (fd offset : ℕ) (rising : Bool) (timestamp : ℕ) (rows : List Request) → P rows → P (change_first (has_number fd) (with_edge offset rising timestamp) rows))
    (settings_set : (fd : ℕ) (settings : Resolved → Resolved) (rows : List Request) → P rows → P (change_first (has_number fd) (λ request. record request { settings = settings request.settings }) rows))
    (finished : (fd : ℕ) (rows : List Request) → P rows → P (change_first (has_number fd) held rows))
    (reads : (fd max : ℕ) (rows : List Request) → P rows → P (change_first (has_number fd) (read_from max) rows))
    (gone : (fd : ℕ) (rows : List Request) → P rows → P (without_first (has_number fd) rows))
    (claimed : (place actor : ℕ) (bytes : List ℕ) (w : World) → request_fault bytes ≡ None → claim_refusal place actor (asked_in bytes) w ≡ None
    → P w.requests → P (w.requests ++ new_claim w.next place actor (asked_in bytes) ∷ []))
  where
    pub step_keeps : (w : World) (actor : ℕ) (call : Call) → P w.requests → P (step w actor call).world.requests
    step_keeps w actor call = world_keeps P (λ w. Unit {0}) (λ actor. Unit {0}) edges settings_set reads
        (λ w actor request before may by. finished request.fd w.requests)
        (λ w actor request before may by. gone request.fd w.requests)
        (λ w fd request before is at. gone request.fd w.requests)
        (λ place actor bytes w before may. claimed place actor bytes w) w actor call tt (λ is. tt)
