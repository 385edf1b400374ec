-- The levels of lines agree with their holders.
use Rattle.std.proofs.Common.{◌||◌, ◌≡◌, ◌<◌, ◌≤◌, ℕ, zero, suc, Bool, true, false, List, [], ◌∷◌, length, refl, sym, ap, ◌∙◌, subst, arith, inl, inr, ◌+◌, cond, Option, Some, None, ◌++◌, map, take, not}
use Rattle.std.specs.Prelude.{◌||◌, nat_eq, slice_index_or, ◌==◌, ◌⊎◌, replicate, ◌&&◌, Result, Ok, Err, nat_le, nat_lt, flat_map}
use Rattle.std.specs.List.{list_any, find}
use Rattle.std.proofs.lemmas.Bool.{cases_eq, cases_lt, true≢false}
use Rattle.gl_bank.specs.Level.{first_levels, levels_at, released, directed, flipped, held_with, configured, pulled}
use Rattle.gl_bank.specs.declared.levels.Levels.{Levels}
use Rattle.gl_base.specs.Positions.{change_at, change_each}
use Rattle.gl_base.proofs.AtPositions.{change_at-past, get_or-change_at_other, get_or-change_at_same, length-change_at, length-change_each}
use Rattle.gl_desc.specs.Desc.{desc_at, first_desc, freed, claimed, hogged, is_free, named, settled, settled_holder}
use Rattle.gl_desc.specs.declared.desc.Desc.{Desc}
use Rattle.gl_desc.specs.declared.desc.Holder.{Holder}
use Rattle.gl_desc.specs.declared.desc.Holder.TheVariants.{Free, Claimed, Held, Hog}
use Rattle.gl_model.specs.declared.place.Place.{Place}
use Rattle.gl_model.specs.Banks.{BanksAgree, LineAgrees, PlaceAgrees, is_held_by, BanksAlwaysAgree, BanksStayAgreed}
use Rattle.gl_model.specs.Claiming.{with_descs, claim_lines, claim_refusal, drop_claim, held, hold_claim, new_claim, claim, claim_at, claim_by, is_claim_of, told_claim}
use Rattle.gl_model.specs.Configuring.{with_levels, configure, configure_from, configured_on, is_directed, reconfigure_from, settings_of, configure_each, config_refusal, reconfigure, set_config, settings_after, with_settings}
use Rattle.gl_model.specs.Opening.{with_lines_freed, close_request, with_timers_let_go, without_request, found, is_open, named_at, open_at, open_refusal, searched}
use Rattle.gl_model.specs.Places.{no_place, place_at, with_place, kind_at, lines_at}
use Rattle.gl_model.specs.World.{World, Request, request_at, has_number, opening}
use Rattle.gl_model.proofs.Ledger.{differs, Ledger, holder_in, ledger, none_some, some_is}
use Rattle.gl_model.proofs.Phases.{same_number, both, nothing_first}
use Rattle.gl_model.proofs.Soundness.{chosen}
use Rattle.gl_model.proofs.SoundRequests.{or_false}
use Rattle.std.proofs.lemmas.List.{get_or_past, length-replicate}
use Rattle.std.proofs.lemmas.Bool.Decides.{nat_tests}
use Rattle.gl_base.specs.Bits.{has_bit}
use Rattle.gl_base.specs.Lines.{offsets_of}
use Rattle.gl_base.specs.Rows.{Each, change_first, without_first}
use Rattle.gl_base.specs.declared.flag.TheConstants.{INPUT, OUTPUT}
use Rattle.gl_base.specs.declared.kind.Kind.{Kind}
use Rattle.gl_base.specs.declared.kind.Kind.TheVariants.{Simulated, Remote}
use Rattle.gl_base.specs.declared.settings.Resolved.{Resolved}
use Rattle.gl_base.specs.declared.settings.Settings.{Settings}
use Rattle.gl_uapi.specs.declared.layout.TheConstants.{CHANGED_CONFIG, CHANGED_RELEASED, CHANGED_REQUESTED, INFO_CHANGED_SIZE, LINE_EVENT_SIZE}
use Rattle.gl_model.specs.Holders.{HasItsLines, HoldersAgree, holder_at}
use Rattle.gl_model.specs.Notify.{notify, notify_each}
use Rattle.gl_model.proofs.HoldersLaw.{holder_same, holders_stay_agreed, opens}
use Rattle.gl_model.proofs.LedgerSteps.{configure_same}
use Rattle.gl_hogs.specs.Hogs.{hog_settings, hogged_bank, hogged_descs}
use Rattle.gl_simtree.specs.Plans.{planned_hogs, planned_lines, planned_names}
use Rattle.gl_simtree.specs.declared.row.TreeRow.{TreeRow}
use Rattle.gl_model.specs.AskedLines.{AskedLines, asked_in, request_fault}
use Rattle.gl_model.specs.Chips.{new_place, place_refusal, places_left}
use Rattle.gl_model.specs.Tree.{place_of_bank, with_names, gone_live, read_outcome}
use Rattle.gl_model.proofs.Holders.{lines_free}
use Rattle.gl_desc.specs.declared.hog.Hog.{Hog as HogPlan}
use Rattle.gl_attrs.specs.Setting.{resolved_for}
use Rattle.gl_bank.specs.declared.levels.Change.{Change}
use Rattle.gl_base.specs.Refusals.{first_of, when}
use Rattle.gl_base.specs.declared.errno.Errno.{Errno}
use Rattle.gl_base.specs.declared.errno.Errno.TheVariants.{BadF, Busy, NoSpc, Fault, Inval}
use Rattle.gl_base.specs.declared.lines.Lines.{Lines}
use Rattle.gl_base.specs.declared.limits.TheConstants.{PLACES}
use Rattle.gl_debounce.specs.Fire.{fires}
use Rattle.gl_debounce.specs.Timer.{hard_at, settled_at_raw, with_raw, with_timer}
use Rattle.gl_debounce.specs.declared.timer.Fired.{Fired}
use Rattle.gl_irq.specs.Irq.{act_refusal, done as irq_done, first_irq}
use Rattle.gl_registry.specs.Chips.{place_of_word}
use Rattle.gl_simtree.specs.Rows.{banks_of, with_state}
use Rattle.gl_uapi.specs.Command.{command_of, size_of}
use Rattle.gl_uapi.specs.declared.commands.Command.{Command}
use Rattle.gl_uapi.specs.declared.commands.Command.TheVariants.{ChipInfo, LineInfo, Watch, Unwatch, GetLine, SetConfig, GetValues, SetValues}
use Rattle.gl_watch.specs.Files.{is_file}
use Rattle.gl_world.specs.History.{fold_from}
use Rattle.gl_world.specs.declared.history.Entry.{Entry}
use Rattle.gl_model.specs.declared.call.Call.{Call}
use Rattle.gl_model.specs.declared.call.Call.TheVariants.{Probe, Unplug, MakeDir, RemoveDir, Write, Read, Live, Remove, Tick, Pin, Irq, Pull, Level, Interrupt, OpenChip, Find, Ioctl, ReadEdges, ReadInfo, PollLine, PollChip, Close, Refused as RefusedCall}
use Rattle.gl_model.specs.declared.call.Part.{Part}
use Rattle.gl_model.specs.declared.call.Part.TheVariants.{Whole, Ask, Tell}
use Rattle.gl_model.specs.declared.gift.Gift.{Gift}
use Rattle.gl_model.specs.declared.reply.Reply.{Reply}
use Rattle.gl_model.specs.Clock.{clock_refusal, fire, settle, settle_each}
use Rattle.gl_model.specs.Edges.{deadline_of, edge, edge_for, raw_edge, raw_edge_for, input_holder}
use Rattle.gl_model.specs.Ioctl.{act_on, by_number, checked, in_part}
use Rattle.gl_model.specs.Machine.{machine, world_of}
use Rattle.gl_model.specs.OpenFiles.{command_refusal, in_parts, on_request, chip_file_refusal, has_part, is_chip_file, is_for_chips, is_hold, is_place, is_request_file, kind_refusal, request_file_refusal, request_place}
use Rattle.gl_model.specs.Outcome.{Outcome, done, refused_or, replies}
use Rattle.gl_model.specs.Interrupts.{irq_line}
use Rattle.gl_model.specs.Pins.{pin_done, pin_refusal}
use Rattle.gl_model.specs.Pulls.{pull_change, pull_line, level_refusal, is_simulated}
use Rattle.gl_model.specs.Removal.{is_unplugging, removed_places, unplug_refusal}
use Rattle.gl_model.specs.Step.{step}
use Rattle.gl_model.specs.Values.{bits_in, drive_from, driven_with, get_values, mask_in, set_values, set_values_refusal}
use Rattle.gl_simtree.specs.Calls.{live_refusal, mkdir_refusal, read_answer, remove_refusal, rmdir_refusal, write_refusal}
use Rattle.gl_simtree.specs.Nodes.{node_at}
use Rattle.gl_simtree.specs.declared.row.State.TheVariants.{Live as LiveState}
use Rattle.gl_watch.specs.declared.file.ChipFile.{ChipFile}
use Rattle.gl_model.specs.Bits.{has_bit_below}
use Rattle.gl_model.specs.Reading.{changes_for, events_for, read_refusal}
use Rattle.gl_model.proofs.Finishing.{claim_found, first_by_number, first_true, requests_differ}
use Rattle.gl_model.proofs.MachineLaws.{always}
use Rattle.gl_model.proofs.Requests.{claim_by_any}
use Rattle.gl_model.proofs.Taking.{its_kind}
use Rattle.gl_model.specs.declared.reply.Reply.TheVariants.{Go}

-- rows by position

module _ {X : Type 0} (d : X) where
  abbrev read : List X → ℕ → X
  read xs o = slice_index_or xs o d

  -- what holds of each row, where it holds of the changed one
  each_at : (P : ℕ → X → Type 0) (n : ℕ) (f : X → X) (xs : List X) → (P n (read xs n) → P n (f (read xs n))) → ((o : ℕ) → P o (read xs o)) → (o : ℕ) → P o (read (change_at d n f xs) o)
  each_at P n f [] g h o = h o
  each_at P zero f (x ∷ xs) g h zero = g (h 0)
  each_at P zero f (x ∷ xs) g h (suc o) = h (suc o)
  each_at P (suc n) f (x ∷ xs) g h zero = h 0
  each_at P (suc n) f (x ∷ xs) g h (suc o) = each_at (λ k. P (suc k)) n f xs g (λ k. h (suc k)) o

  -- a row that isn't among the changed ones
  other_each : (f : X → X) (ns : List ℕ) (xs : List X) (o : ℕ) → list_any (nat_eq o) ns ≡ false → read (change_each d ns f xs) o ≡ read xs o
  other_each f [] xs o e = refl
  other_each f (n ∷ ns) xs o e =
      let both = or_false (nat_eq o n) (list_any (nat_eq o) ns) e in
      other_each f ns (change_at d n f xs) o both.1 ∙ get_or-change_at_other d n o f xs d (λ same. differs o n both.0 same)

  module _ (R Q : X → Type 0) (f : X → X) (rq : (x : X) → R x → Q (f x)) (qr : (x : X) → Q x → R x) where
    stays_done : (ns : List ℕ) (xs : List X) (o : ℕ) → Q (read xs o) → Q (read (change_each d ns f xs) o)
    stays_done [] xs o q = q
    stays_done (n ∷ ns) xs o q = stays_done ns (change_at d n f xs) o (elim (cases_eq o n) as (λ _. Q (read (change_at d n f xs) o)) [
      | inl same ↦ (elim (cases_lt o (length xs)) as (λ _. Q (read (change_at d n f xs) o)) [
        | inl lt ↦
            (let here : read (change_at d o f xs) o ≡ f (read xs o) = get_or-change_at_same d o f xs d lt in
            subst (λ k. Q (read (change_at d k f xs) o)) same (subst Q (sym here) (rq (read xs o) (qr (read xs o) q))))
        | inr past ↦ subst (λ l. Q (read l o)) (sym (change_at-past d n f xs (omega (arith, past, same)))) q
      ])
      | inr ne ↦ subst Q (sym (get_or-change_at_other d n o f xs d ne)) q
    ])

    -- a row that is among the changed ones
    done_each : (ns : List ℕ) (xs : List X) (o : ℕ) → list_any (nat_eq o) ns ≡ true → o < length xs → R (read xs o) → Q (read (change_each d ns f xs) o)
    done_each [] xs o e lt r = absurd (true≢false (sym e))
    done_each (n ∷ ns) xs o e lt r = elim (nat_eq o n) as (λ b. nat_eq o n ≡ b → (b || list_any (nat_eq o) ns) ≡ true → Q (read (change_each d ns f (change_at d n f xs)) o)) [
      | true ↦ (λ t _. let same : o ≡ n = same_number o n t in
          let here : read (change_at d o f xs) o ≡ f (read xs o) = get_or-change_at_same d o f xs d lt in
          stays_done ns (change_at d n f xs) o (subst (λ k. Q (read (change_at d k f xs) o)) same (subst Q (sym here) (rq (read xs o) r))))
      | false ↦ (λ ne later.
          let long : length (change_at d n f xs) ≡ length xs = length-change_at d n f xs in
          done_each ns (change_at d n f xs) o later (omega arith) (subst R (sym (get_or-change_at_other d n o f xs d (λ same. differs o n ne same))) r))
    ] refl e

  -- a row past the end
  past_each : (f : X → X) (ns : List ℕ) (xs : List X) (o : ℕ) → length xs ≤ o → read (change_each d ns f xs) o ≡ read xs o
  past_each f ns xs o past =
      let long : length (change_each d ns f xs) ≡ length xs = length-change_each d ns f xs in
      get_or_past (change_each d ns f xs) o d (omega arith) ∙ sym (get_or_past xs o d past)

-- one place

abbrev AgreesAt : List Desc → List Levels → ℕ → Type 0
AgreesAt descs bank offset = LineAgrees (desc_at descs offset).holder (levels_at bank offset)

-- lines whose holders change, in a bank in which they aren't held
lines_change : (f : Desc → Desc) (to : Holder) → ((x : Desc) → (f x).holder ≡ to) → is_held_by to ≡ false → (offsets : List ℕ) (place : Place)
    → ((offset : ℕ) → list_any (nat_eq offset) offsets ≡ true → (levels_at place.bank offset).held ≡ false) → PlaceAgrees place → PlaceAgrees (with_descs offsets f place)
lines_change f to gives unheld offsets place free a = record {
  as_many = length-change_each first_desc offsets f place.descs ∙ a.as_many;
  lines = λ o. elim (chosen (list_any (nat_eq o) offsets)) as (λ _. AgreesAt (change_each first_desc offsets f place.descs) place.bank o) [
    | inl t ↦ (elim (cases_lt o (length place.descs)) as (λ _. AgreesAt (change_each first_desc offsets f place.descs) place.bank o) [
      | inl lt ↦
          (let is : (desc_at (change_each first_desc offsets f place.descs) o).holder ≡ to =
          done_each first_desc (λ _. Unit {0}) (λ x. x.holder ≡ to) f (λ x _. gives x) (λ x _. tt) offsets place.descs o t lt tt in
          let line = a.lines o in
          record { held = free o t ∙ sym (ap is_held_by is ∙ unheld); no_flags = line.no_flags; no_period = line.no_period })
      | inr past ↦ subst (λ x. LineAgrees x.holder (levels_at place.bank o)) (sym (past_each first_desc f offsets place.descs o past)) (a.lines o)
    ])
    | inr n ↦ subst (λ x. LineAgrees x.holder (levels_at place.bank o)) (sym (other_each first_desc f offsets place.descs o n)) (a.lines o)
  ];
}

-- lines that are let go of
lines_freed : (offsets : List ℕ) (place : Place) → PlaceAgrees place → PlaceAgrees (with_lines_freed offsets place)
lines_freed offsets place a =
    let descs : List Desc = change_each first_desc offsets freed place.descs in
    let bank : List Levels = change_each first_levels offsets released place.bank in
    let long : length place.descs ≡ length place.bank = a.as_many in
    record {
      as_many = length-change_each first_desc offsets freed place.descs ∙ a.as_many ∙ sym (length-change_each first_levels offsets released place.bank);
      lines = λ o.
          let still : desc_at descs o ≡ desc_at place.descs o → levels_at bank o ≡ levels_at place.bank o → AgreesAt descs bank o =
          (λ e g. subst (λ l. LineAgrees (desc_at descs o).holder l) (sym g) (subst (λ x. LineAgrees x.holder (levels_at place.bank o)) (sym e) (a.lines o))) in
          elim (chosen (list_any (nat_eq o) offsets)) as (λ _. AgreesAt descs bank o) [
            | inl t ↦ (elim (cases_lt o (length place.descs)) as (λ _. AgreesAt descs bank o) [
              | inl lt ↦
                  (let free : (desc_at descs o).holder ≡ Free = done_each first_desc (λ _. Unit {0}) (λ x. x.holder ≡ Free) freed (λ x _. refl) (λ x _. tt) offsets place.descs o t lt tt in
                  let gone : ((levels_at bank o).held ≡ false) × ((levels_at bank o).flags ≡ 0) × ((levels_at bank o).debounce_us ≡ 0) =
                  done_each first_levels (λ _. Unit {0}) (λ l. (l.held ≡ false) × (l.flags ≡ 0) × (l.debounce_us ≡ 0)) released (λ x _. (refl, refl, refl)) (λ x _. tt) offsets place.bank o t (omega arith) tt in
                  record { held = gone.0 ∙ sym (ap is_held_by free); no_flags = λ _. gone.1; no_period = λ _. gone.2 })
              | inr past ↦ still (past_each first_desc freed offsets place.descs o past) (past_each first_levels released offsets place.bank o (omega arith))
            ])
            | inr n ↦ still (other_each first_desc freed offsets place.descs o n) (other_each first_levels released offsets place.bank o n)
          ];
    }

-- a change of a line's levels that keeps whether it is held, its flags and its period
bank_keeps : (f : Levels → Levels) → ((l : Levels) → (f l).held ≡ l.held) → ((l : Levels) → (f l).flags ≡ l.flags) → ((l : Levels) → (f l).debounce_us ≡ l.debounce_us)
    → (offset : ℕ) (place : Place) → PlaceAgrees place → PlaceAgrees (with_levels offset f place)
bank_keeps f held flags period offset place a = record {
  as_many = a.as_many ∙ sym (length-change_at first_levels offset f place.bank);
  lines = each_at first_levels (λ o l. LineAgrees (desc_at place.descs o).holder l) offset f place.bank
      (λ line. let l = levels_at place.bank offset in record {
        held = held l ∙ line.held;
        no_flags = λ e. flags l ∙ line.no_flags (sym (held l) ∙ e);
        no_period = λ e. period l ∙ line.no_period (sym (held l) ∙ e);
      }) a.lines;
}

-- all places

with_places : (place : ℕ) (f : Place → Place) (w : World) → (PlaceAgrees (place_at w place) → PlaceAgrees (f (place_at w place))) → BanksAgree w → BanksAgree (with_place place f w)
with_places place f w h a = each_at no_place (λ p x. PlaceAgrees x) place f w.places h a

same_places : (w v : World) → v.places ≡ w.places → BanksAgree w → BanksAgree v
same_places w v e a place = subst (λ ps. PlaceAgrees (slice_index_or ps place no_place)) (sym e) (a place)

-- what is found, and who has its lines

found_each : (P : Request → Type 0) (fd : ℕ) (rows : List Request) (x : Request) → Each P rows → request_at rows fd ≡ Some x → P x
found_each P fd [] x each is = absurd (none_some x is)
found_each P fd (y ∷ rows) x each is = elim (y.fd == fd) as (λ b. cond b (Some y) (request_at rows fd) ≡ Some x → P x) [
  | true ↦ (λ same. subst P (some_is y x same) each.0)
  | false ↦ (λ later. found_each P fd rows x each.1 later)
] is

-- the lines of a place are held, of these offsets
abbrev AreHeld : ℕ → List ℕ → World → Type 0
AreHeld place offsets w = (offset : ℕ) → list_any (nat_eq offset) offsets ≡ true → is_held_by (holder_at w place offset) ≡ true

holders_kept : (w v : World) → ledger v ≡ ledger w → (place offset : ℕ) → holder_at v place offset ≡ holder_at w place offset
holders_kept w v e place offset = sym (holder_same v place offset) ∙ ap (λ (l : Ledger). holder_in l.tables place offset) e ∙ holder_same w place offset

held_request : (w : World) (fd : ℕ) (request : Request) → HoldersAgree w → request_at w.requests fd ≡ Some request → request.held ≡ true → AreHeld request.place (offsets_of request.lines) w
held_request w fd request agree is held offset any =
    let has : HasItsLines w request = found_each (HasItsLines w) fd w.requests request agree.requests_have is in
    ap is_held_by ((has offset any).1 ∙ ap (λ b. cond b (Held request.fd) (Claimed request.fd)) held)

claimed_request : (w : World) (fd : ℕ) (request : Request) → HoldersAgree w → request_at w.requests fd ≡ Some request → request.held ≡ false → (offset : ℕ)
    → list_any (nat_eq offset) (offsets_of request.lines) ≡ true → holder_at w request.place offset ≡ Claimed request.fd
claimed_request w fd request agree is unheld offset any =
    let has : HasItsLines w request = found_each (HasItsLines w) fd w.requests request agree.requests_have is in
    (has offset any).1 ∙ ap (λ b. cond b (Held request.fd) (Claimed request.fd)) unheld

-- lines that are configured

directed_held : (settings : Settings) (l : Levels) → (directed settings l).held ≡ l.held
directed_held settings l = elim (has_bit settings.flags OUTPUT) as (λ b. (cond b (record l { output = true; drive = flipped settings.flags settings.value })
    (cond (has_bit settings.flags INPUT) (record l { output = false }) (cond l.output (record l { drive = l.pull }) l))).held ≡ l.held) [
      | true ↦ refl
      | false ↦ (elim (has_bit settings.flags INPUT) as (λ b. (cond b (record l { output = false }) (cond l.output (record l { drive = l.pull }) l)).held ≡ l.held) [
        | true ↦ refl
        | false ↦ (elim l.output as (λ b. (cond b (record l { drive = l.pull }) l).held ≡ l.held) [ true ↦ refl | false ↦ refl ])
      ])
    ]

configured_held : (kind : Kind) (settings : Settings) (l : Levels) → (configured_on kind settings l).held ≡ true
configured_held Simulated settings l = directed_held settings (held_with settings l)
configured_held Remote settings l = directed_held settings (held_with settings l)

-- the lines of a place agree, except for some that are held and not configured yet
record PendingAt (place : ℕ) (left : List ℕ) (p : ℕ) (x : Place) : Type 0 where
  as_many : length x.descs ≡ length x.bank
  lines : (offset : ℕ) → ((p ≡ place) × (list_any (nat_eq offset) left ≡ true)) ⊎ LineAgrees (desc_at x.descs offset).holder (levels_at x.bank offset)

abbrev Pending : ℕ → List ℕ → World → Type 0
Pending place left w = (p : ℕ) → PendingAt place left p (place_at w p)

held_in_range : (descs : List Desc) (o : ℕ) → is_held_by (desc_at descs o).holder ≡ true → o < length descs
held_in_range descs o h = elim (cases_lt o (length descs)) as (λ _. o < length descs) [
  | inl lt ↦ lt
  | inr past ↦ absurd (true≢false (sym h ∙ ap (λ (x : Desc). is_held_by x.holder) (get_or_past descs o first_desc past)))
]

configured_at : (place n : ℕ) (left : List ℕ) (f : Levels → Levels) (x : Place) → ((l : Levels) → (f l).held ≡ true) → is_held_by (desc_at x.descs n).holder ≡ true
    → PendingAt place (n ∷ left) place x → PendingAt place left place (with_levels n f x)
configured_at place n left f x held holder p =
    let lt : n < length x.descs = held_in_range x.descs n holder in
    let long : length x.descs ≡ length x.bank = p.as_many in
    record {
      as_many = p.as_many ∙ sym (length-change_at first_levels n f x.bank);
      lines = λ o. elim (cases_eq o n) as (λ _. ((place ≡ place) × (list_any (nat_eq o) left ≡ true)) ⊎ LineAgrees (desc_at x.descs o).holder (levels_at (change_at first_levels n f x.bank) o)) [
        | inl same ↦
            (let here : levels_at (change_at first_levels n f x.bank) n ≡ f (levels_at x.bank n) = get_or-change_at_same first_levels n f x.bank first_levels (omega arith) in
            let on : (levels_at (change_at first_levels n f x.bank) n).held ≡ true = ap (λ (l : Levels). l.held) here ∙ held (levels_at x.bank n) in
            inr (subst (λ k. LineAgrees (desc_at x.descs k).holder (levels_at (change_at first_levels n f x.bank) k)) (sym same)
            (record { held = on ∙ sym holder; no_flags = λ e. absurd (true≢false (sym on ∙ e)); no_period = λ e. absurd (true≢false (sym on ∙ e)) })))
        | inr ne ↦
            (let there : levels_at (change_at first_levels n f x.bank) o ≡ levels_at x.bank o = get_or-change_at_other first_levels n o f x.bank first_levels ne in
            elim (p.lines o) as (λ _. ((place ≡ place) × (list_any (nat_eq o) left ≡ true)) ⊎ LineAgrees (desc_at x.descs o).holder (levels_at (change_at first_levels n f x.bank) o)) [
              | inl waits ↦ inl (refl, later o waits.1 ne)
              | inr line ↦ inr (subst (LineAgrees (desc_at x.descs o).holder) (sym there) line)
            ])
      ];
    }
  where
    later : (o : ℕ) → list_any (nat_eq o) (n ∷ left) ≡ true → (o ≡ n → ⊥) → list_any (nat_eq o) left ≡ true
    later o any ne = elim (nat_eq o n) as (λ b. nat_eq o n ≡ b → (b || list_any (nat_eq o) left) ≡ true → list_any (nat_eq o) left ≡ true) [
      | true ↦ (λ t _. absurd (ne (same_number o n t)))
      | false ↦ (λ _ e. e)
    ] refl any

configured_line : (place : ℕ) (settings : Settings) (answered : Bool) (n : ℕ) (left : List ℕ) (w : World) → is_held_by (holder_at w place n) ≡ true → Pending place (n ∷ left) w → Pending place left (configure place settings answered n w)
configured_line place settings answered n left w holder pending p =
    let f : Place → Place = with_levels n (configured_on (kind_at w place) settings) in
    elim (cases_eq p place) as (λ _. PendingAt place left p (slice_index_or (change_at no_place place f w.places) p no_place)) [
      | inl same ↦ (elim (cases_lt place (length w.places)) as (λ _. PendingAt place left p (slice_index_or (change_at no_place place f w.places) p no_place)) [
        | inl lt ↦
            (let here : slice_index_or (change_at no_place place f w.places) place no_place ≡ f (place_at w place) = get_or-change_at_same no_place place f w.places no_place lt in
            let at : PendingAt place left place (f (place_at w place)) =
            configured_at place n left (configured_on (kind_at w place) settings) (place_at w place) (configured_held (kind_at w place) settings) holder (pending place) in
            subst (λ k. PendingAt place left k (slice_index_or (change_at no_place place f w.places) k no_place)) (sym same) (subst (PendingAt place left place) (sym here) at))
        | inr past ↦ absurd (true≢false (sym holder ∙ ap (λ (x : Place). is_held_by (desc_at x.descs n).holder) (get_or_past w.places place no_place past)))
      ])
      | inr ne ↦
          (let q = pending p in
          let there : slice_index_or (change_at no_place place f w.places) p no_place ≡ place_at w p = get_or-change_at_other no_place place p f w.places no_place ne in
          subst (PendingAt place left p) (sym there) (record {
            as_many = q.as_many;
            lines = λ o. elim (q.lines o) as (λ _. ((p ≡ place) × (list_any (nat_eq o) left ≡ true)) ⊎ LineAgrees (desc_at (place_at w p).descs o).holder (levels_at (place_at w p).bank o)) [
              | inl waits ↦ absurd (ne waits.0)
              | inr line ↦ inr line
            ];
          }))
    ]

none_pending : (place : ℕ) (w : World) → Pending place [] w → BanksAgree w
none_pending place w pending p = let q = pending p in record {
  as_many = q.as_many;
  lines = λ o. elim (q.lines o) as (λ _. LineAgrees (desc_at (place_at w p).descs o).holder (levels_at (place_at w p).bank o)) [
    | inl waits ↦ absurd (true≢false (sym waits.1))
    | inr line ↦ line
  ];
}

all_agree : (place : ℕ) (left : List ℕ) (w : World) → BanksAgree w → Pending place left w
all_agree place left w a p = record { as_many = (a p).as_many; lines = λ o. inr ((a p).lines o) }

-- the first of some lines is one of them
first_held : (place n : ℕ) (ns : List ℕ) (w : World) → AreHeld place (n ∷ ns) w → is_held_by (holder_at w place n) ≡ true
first_held place n ns w held = held n (let t : nat_eq n n ≡ true = grind (arith, nat_tests) in ap (λ b. b || list_any (nat_eq n) ns) t)

others_held : (place n : ℕ) (ns : List ℕ) (w v : World) → ((offset : ℕ) → holder_at v place offset ≡ holder_at w place offset) → AreHeld place (n ∷ ns) w → AreHeld place ns v
others_held place n ns w v same held o any = ap is_held_by (same o) ∙ held o (behind (nat_eq o n))
  where
    behind : (b : Bool) → (b || list_any (nat_eq o) ns) ≡ true
    behind true = refl
    behind false = any

configured_lines : (place : ℕ) (settings : Resolved) (bits i : ℕ) (offsets : List ℕ) (w : World) → AreHeld place offsets w → Pending place offsets w → Pending place [] (configure_from place settings bits i offsets w)
configured_lines place settings bits i [] w held pending = pending
configured_lines place settings bits i (n ∷ offsets) w held pending =
    let v : World = configure place (settings_of settings i) (has_bit bits i) n w in
    configured_lines place settings bits (i + 1) offsets v
    (others_held place n offsets w v (holders_kept w v (configure_same place (settings_of settings i) (has_bit bits i) n w) place) held)
    (configured_line place (settings_of settings i) (has_bit bits i) n offsets w (first_held place n offsets w held) pending)

reconfigured_lines : (place : ℕ) (settings : Resolved) (bits i : ℕ) (offsets : List ℕ) (w : World) → AreHeld place offsets w → BanksAgree w → BanksAgree (reconfigure_from place settings bits i offsets w)
reconfigured_lines place settings bits i [] w held a = a
reconfigured_lines place settings bits i (n ∷ offsets) w held a =
    let set : World = configure place (settings_of settings i) (has_bit bits i) n w in
    let told : World = notify place n CHANGED_CONFIG set in
    elim (is_directed settings i) as (λ b. BanksAgree (reconfigure_from place settings bits (i + 1) offsets (cond b told w))) [
      | true ↦ reconfigured_lines place settings bits (i + 1) offsets told
          (others_held place n offsets w told (holders_kept w set (configure_same place (settings_of settings i) (has_bit bits i) n w) place) held)
          (none_pending place set (configured_line place (settings_of settings i) (has_bit bits i) n [] w (first_held place n offsets w held) (all_agree place (n ∷ []) w a)))
      | false ↦ reconfigured_lines place settings bits (i + 1) offsets w (others_held place n offsets w w (λ o. refl) held) a
    ]

-- new places

append_at : (P : Place → Type 0) (xs ys : List Place) → ((p : ℕ) → P (slice_index_or xs p no_place)) → ((p : ℕ) → P (slice_index_or ys p no_place)) → (p : ℕ) → P (slice_index_or (xs ++ ys) p no_place)
append_at P [] ys h g p = g p
append_at P (x ∷ xs) ys h g zero = h 0
append_at P (x ∷ xs) ys h g (suc p) = append_at P xs ys (λ k. h (suc k)) g p

same_everywhere : {X : Type 0} (n : ℕ) (x : X) (o : ℕ) → slice_index_or (replicate n x) o x ≡ x
same_everywhere zero x o = refl
same_everywhere (suc n) x zero = refl
same_everywhere (suc n) x (suc o) = same_everywhere n x o

no_line : LineAgrees Free first_levels
no_line = record { held = refl; no_flags = λ _. refl; no_period = λ _. refl }

new_agrees : (lines : ℕ) → PlaceAgrees (new_place lines)
new_agrees lines = record {
  as_many = length-replicate lines first_desc ∙ sym (length-replicate lines first_levels);
  lines = λ o. subst (λ x. LineAgrees x.holder (levels_at (replicate lines first_levels) o)) (sym (same_everywhere lines first_desc o))
      (subst (LineAgrees Free) (sym (same_everywhere lines first_levels o)) no_line);
}

no_place_agrees : PlaceAgrees no_place
no_place_agrees = record { as_many = refl; lines = λ o. no_line }

names_agree : (names : List (ℕ × List ℕ)) (place : Place) → PlaceAgrees place → PlaceAgrees (record place { descs = with_names names place.descs })
names_agree [] place a = a
names_agree (name ∷ names) place a = names_agree names (record place { descs = change_at first_desc name.0 (named name.1) place.descs }) (record {
  as_many = length-change_at first_desc name.0 (named name.1) place.descs ∙ a.as_many;
  lines = each_at first_desc (λ o x. LineAgrees x.holder (levels_at place.bank o)) name.0 (named name.1) place.descs (λ line. line) a.lines;
})

hog_agrees : (hog : HogPlan) (place : Place) → PlaceAgrees place → PlaceAgrees (record place {
  descs = change_at first_desc hog.offset (hogged hog.name) place.descs;
  bank = change_at first_levels hog.offset (configured (hog_settings hog.way)) place.bank;
})
hog_agrees hog place a =
    let n : ℕ = hog.offset in
    let f : Levels → Levels = configured (hog_settings hog.way) in
    let descs : List Desc = change_at first_desc n (hogged hog.name) place.descs in
    let bank : List Levels = change_at first_levels n f place.bank in
    let long : length place.descs ≡ length place.bank = a.as_many in
    record {
      as_many = length-change_at first_desc n (hogged hog.name) place.descs ∙ a.as_many ∙ sym (length-change_at first_levels n f place.bank);
      lines = λ o.
          let still : desc_at descs o ≡ desc_at place.descs o → levels_at bank o ≡ levels_at place.bank o → AgreesAt descs bank o =
          (λ e g. subst (λ l. LineAgrees (desc_at descs o).holder l) (sym g) (subst (λ x. LineAgrees x.holder (levels_at place.bank o)) (sym e) (a.lines o))) in
          elim (cases_eq o n) as (λ _. AgreesAt descs bank o) [
            | inl same ↦ (elim (cases_lt n (length place.descs)) as (λ _. AgreesAt descs bank o) [
              | inl lt ↦
                  (let holder : is_held_by (desc_at descs n).holder ≡ true = ap (λ (x : Desc). is_held_by x.holder) (get_or-change_at_same first_desc n (hogged hog.name) place.descs first_desc lt) in
                  let on : (levels_at bank n).held ≡ true = ap (λ (l : Levels). l.held) (get_or-change_at_same first_levels n f place.bank first_levels (omega arith)) ∙ directed_held (hog_settings hog.way) (held_with (hog_settings hog.way) (levels_at place.bank n)) in
                  subst (AgreesAt descs bank) (sym same) (record { held = on ∙ sym holder; no_flags = λ e. absurd (true≢false (sym on ∙ e)); no_period = λ e. absurd (true≢false (sym on ∙ e)) }))
              | inr past ↦ still (ap (λ l. desc_at l o) (change_at-past first_desc n (hogged hog.name) place.descs past)) (ap (λ l. levels_at l o) (change_at-past first_levels n f place.bank (omega arith)))
            ])
            | inr ne ↦ still (get_or-change_at_other first_desc n o (hogged hog.name) place.descs first_desc ne) (get_or-change_at_other first_levels n o f place.bank first_levels ne)
          ];
    }

hogs_agree : (hogs : List HogPlan) (place : Place) → PlaceAgrees place → PlaceAgrees (record place { descs = hogged_descs hogs place.descs; bank = hogged_bank hogs place.bank })
hogs_agree [] place a = a
hogs_agree (hog ∷ hogs) place a = hogs_agree hogs (record place {
  descs = change_at first_desc hog.offset (hogged hog.name) place.descs;
  bank = change_at first_levels hog.offset (configured (hog_settings hog.way)) place.bank;
}) (hog_agrees hog place a)

bank_agrees : (tree : List TreeRow) (bank : TreeRow) → PlaceAgrees (place_of_bank tree bank)
bank_agrees tree bank =
    let place : Place = new_place (planned_lines (Some bank)) in
    let names : List (ℕ × List ℕ) = planned_names (Some bank) tree in
    hogs_agree (planned_hogs (Some bank) tree) (record place { descs = with_names names place.descs }) (names_agree names place (new_agrees (planned_lines (Some bank))))

banks_agree : (tree banks : List TreeRow) (p : ℕ) → PlaceAgrees (slice_index_or (map (place_of_bank tree) banks) p no_place)
banks_agree tree [] p = no_place_agrees
banks_agree tree (bank ∷ banks) zero = bank_agrees tree bank
banks_agree tree (bank ∷ banks) (suc p) = banks_agree tree banks p

one_new : (lines p : ℕ) → PlaceAgrees (slice_index_or (new_place lines ∷ []) p no_place)
one_new lines zero = new_agrees lines
one_new lines (suc p) = no_place_agrees

-- requests

free_unheld : (h : Holder) → is_free h ≡ true → is_held_by h ≡ false
free_unheld Free e = refl
free_unheld (Claimed fd) e = absurd (true≢false (sym e))
free_unheld (Held fd) e = absurd (true≢false (sym e))
free_unheld Hog e = absurd (true≢false (sym e))

claim_agrees : (place actor : ℕ) (asked : AskedLines) (w : World) → claim_refusal place actor asked w ≡ None → BanksAgree w → BanksAgree (claim_lines place actor asked w)
claim_agrees place actor asked w e a =
    with_places place (with_descs (offsets_of asked.lines) (claimed w.next asked.consumer)) (record w { requests = w.requests ++ new_claim w.next place actor asked ∷ []; next = w.next + 1 })
    (lines_change (claimed w.next asked.consumer) (Claimed w.next) (λ x. refl) refl (offsets_of asked.lines) (place_at w place)
    (λ o any. let free : is_free (holder_at w place o) ≡ true = ap is_free (sym (holder_same w place o)) ∙ (lines_free place actor asked w e o any).1 in
    ((a place).lines o).held ∙ free_unheld (holder_at w place o) free)) a

drop_agrees : (fd : ℕ) (request : Request) (w : World) → HoldersAgree w → request_at w.requests fd ≡ Some request → request.held ≡ false → BanksAgree w → BanksAgree (drop_claim request w)
drop_agrees fd request w agree is unheld a =
    with_places request.place (with_descs (offsets_of request.lines) freed) (record w { requests = without_first (has_number request.fd) w.requests })
    (lines_change freed Free (λ x. refl) refl (offsets_of request.lines) (place_at w request.place)
    (λ o any. ((a request.place).lines o).held ∙ ap is_held_by (claimed_request w fd request agree is unheld o any))) a

notify_places : (place : ℕ) (offsets : List ℕ) (kind : ℕ) (w : World) → (notify_each place offsets kind w).places ≡ w.places
notify_places place [] kind w = refl
notify_places place (offset ∷ offsets) kind w = notify_places place offsets kind (notify place offset kind w)

close_agrees : (o : Option Request) (w : World) → BanksAgree w → BanksAgree (close_request o w)
close_agrees None w a = a
close_agrees (Some request) w a =
    let offsets : List ℕ = offsets_of request.lines in
    same_places (without_request request w) (close_request (Some request) w) (notify_places request.place offsets CHANGED_RELEASED (without_request request w))
    (with_places request.place (with_lines_freed offsets) (record w { requests = without_first (has_number request.fd) w.requests; timers = with_timers_let_go request.place offsets w.timers })
    (lines_freed offsets (place_at w request.place)) a)

-- the lines of a claim, held

settled_at : (place : ℕ) (offsets : List ℕ) (x : Place) → PlaceAgrees x → PendingAt place offsets place (with_descs offsets settled x)
settled_at place offsets x a = record {
  as_many = length-change_each first_desc offsets settled x.descs ∙ a.as_many;
  lines = λ o. elim (chosen (list_any (nat_eq o) offsets)) as (λ _. ((place ≡ place) × (list_any (nat_eq o) offsets ≡ true)) ⊎ LineAgrees (desc_at (change_each first_desc offsets settled x.descs) o).holder (levels_at x.bank o)) [
    | inl t ↦ inl (refl, t)
    | inr n ↦ inr (subst (λ d. LineAgrees d.holder (levels_at x.bank o)) (sym (other_each first_desc settled offsets x.descs o n)) (a.lines o))
  ];
}

settled_holders : (request : Request) (w : World) → HasItsLines w request → request.held ≡ false
    → AreHeld request.place (offsets_of request.lines) (with_place request.place (with_descs (offsets_of request.lines) settled) (record w { requests = change_first (has_number request.fd) held w.requests }))
settled_holders request w has unheld o any =
    let offsets : List ℕ = offsets_of request.lines in
    let place : ℕ = request.place in
    let f : Place → Place = with_descs offsets settled in
    let line = has o any in
    let lt : o < length (place_at w place).descs = line.0 in
    let was : (desc_at (place_at w place).descs o).holder ≡ Claimed request.fd = line.1 ∙ ap (λ b. cond b (Held request.fd) (Claimed request.fd)) unheld in
    let now : (desc_at (change_each first_desc offsets settled (place_at w place).descs) o).holder ≡ Held request.fd =
    done_each first_desc (λ x. (x.holder ≡ Claimed request.fd) ⊎ (x.holder ≡ Held request.fd)) (λ x. x.holder ≡ Held request.fd) settled
    (λ x r. elim r as (λ _. settled_holder x.holder ≡ Held request.fd) [ inl c ↦ ap settled_holder c | inr h ↦ ap settled_holder h ]) (λ x q. inr q) offsets (place_at w place).descs o any lt (inl was) in
    elim (cases_lt place (length w.places)) as (λ _. is_held_by (desc_at (slice_index_or (change_at no_place place f w.places) place no_place).descs o).holder ≡ true) [
      | inl in_places ↦ ap (λ (x : Place). is_held_by (desc_at x.descs o).holder) (get_or-change_at_same no_place place f w.places no_place in_places) ∙ ap is_held_by now
      | inr past ↦ absurd (nothing_there past lt)
    ]
  where
    nothing_there : length w.places ≤ request.place → o < length (place_at w request.place).descs → ⊥
    nothing_there past lt = let none : length (place_at w request.place).descs ≡ 0 = ap (λ (x : Place). length x.descs) (get_or_past w.places request.place no_place past) in omega (arith, none, lt)

hold_agrees : (bits fd : ℕ) (request : Request) (w : World) → HoldersAgree w → request_at w.requests fd ≡ Some request → request.held ≡ false → BanksAgree w → BanksAgree (hold_claim bits request w)
hold_agrees bits fd request w agree is unheld a =
    let offsets : List ℕ = offsets_of request.lines in
    let place : ℕ = request.place in
    let has : HasItsLines w request = found_each (HasItsLines w) fd w.requests request agree.requests_have is in
    let lines_held : World = with_place place (with_descs offsets settled) (record w { requests = change_first (has_number request.fd) held w.requests }) in
    let set : World = configure_each place request.lines request.settings bits lines_held in
    let pending : Pending place offsets lines_held = each_at no_place (λ p x. PendingAt place offsets p x) place (with_descs offsets settled) w.places (λ _. settled_at place offsets (place_at w place) (a place)) (all_agree place offsets w a) in
    same_places set (hold_claim bits request w) (notify_places place offsets CHANGED_REQUESTED set)
    (none_pending place set (configured_lines place request.settings bits 0 offsets lines_held (settled_holders request w has unheld) pending))

-- each call

agree_unless : (r : Option Errno) (w : World) (out : Outcome) → BanksAgree w → (r ≡ None → BanksAgree out.world) → BanksAgree (refused_or r w out).world
agree_unless None w out a h = h refl
agree_unless (Some e) w out a h = a

edge_for_places : (o : Option ℕ) (offset : ℕ) (line : Levels) (up : Bool) (mono : ℕ) (w : World) → (edge_for o offset line up mono w).places ≡ w.places
edge_for_places None offset line up mono w = refl
edge_for_places (Some fd) offset line up mono w = refl

edge_places : (place offset : ℕ) (up : Bool) (mono : ℕ) (w : World) → (edge place offset up mono w).places ≡ w.places
edge_places place offset up mono w = edge_for_places (input_holder (place_at w place) offset) offset (levels_at (place_at w place).bank offset) up mono w

either_places : (b : Bool) (v u w : World) → v.places ≡ w.places → u.places ≡ w.places → (cond b v u).places ≡ w.places
either_places true v u w h k = h
either_places false v u w h k = k

raw_edge_for_places : (o : Option ℕ) (place offset : ℕ) (up : Bool) (w : World) → (raw_edge_for o place offset up w).places ≡ w.places
raw_edge_for_places None place offset up w = refl
raw_edge_for_places (Some fd) place offset up w =
    let line : Levels = levels_at (place_at w place).bank offset in
    either_places (line.debounce_us == 0 || hard_at w.timers place offset) (edge place offset up w.mono w) (record w { timers = with_timer (with_raw up (deadline_of line w.mono)) place offset w.timers }) w (edge_places place offset up w.mono w) refl

raw_edge_places : (place offset : ℕ) (o : Option Change) (w : World) → (raw_edge place offset o w).places ≡ w.places
raw_edge_places place offset None w = refl
raw_edge_places place offset (Some change) w = raw_edge_for_places (input_holder (place_at w place) offset) place offset change.rose w

settle_places : (line : Fired) (w : World) → (settle line w).places ≡ w.places
settle_places line w =
    let rested : World = record w { timers = with_timer settled_at_raw line.place line.offset w.timers } in
    either_places line.changed (edge line.place line.offset line.level line.deadline rested) rested w (edge_places line.place line.offset line.level line.deadline rested) refl

settle_each_places : (lines : List Fired) (w : World) → (settle_each lines w).places ≡ w.places
settle_each_places [] w = refl
settle_each_places (line ∷ lines) w = settle_each_places lines (settle line w) ∙ settle_places line w

pull_agrees : (place offset : ℕ) (up : Bool) (w : World) → BanksAgree w → BanksAgree (pull_line place offset up w)
pull_agrees place offset up w a =
    let f : Place → Place = λ tables. record tables { bank = change_at first_levels offset (pulled up) tables.bank } in
    same_places (with_place place f w) (pull_line place offset up w) (raw_edge_places place offset (pull_change up (levels_at (place_at w place).bank offset)) (with_place place f w))
    (with_places place f w (bank_keeps (pulled up) (λ l. refl) (λ l. refl) (λ l. refl) offset (place_at w place)) a)

drive_agrees : (place mask bits i : ℕ) (offsets : List ℕ) (w : World) → BanksAgree w → BanksAgree (drive_from place mask bits i offsets w)
drive_agrees place mask bits i [] w a = a
drive_agrees place mask bits i (offset ∷ offsets) w a =
    let f : Levels → Levels = driven_with (has_bit bits i) in
    drive_agrees place mask bits (i + 1) offsets (cond (has_bit mask i) (with_place place (with_levels offset f) w) w)
    (elim (has_bit mask i) as (λ b. BanksAgree (cond b (with_place place (with_levels offset f) w) w)) [
      | true ↦ with_places place (with_levels offset f) w (bank_keeps f (λ l. refl) (λ l. refl) (λ l. refl) offset (place_at w place)) a
      | false ↦ a
    ])

-- the claim that is told is the request of its number, and isn't held
claim_is : (actor place : ℕ) (request : Request) (w : World) → HoldersAgree w → claim_at place (claim_by w.requests actor) ≡ Some request
    → (request_at w.requests request.fd ≡ Some request) × (request.held ≡ false)
claim_is actor place request w agree e =
    let differ = requests_differ w.requests (map (λ (file : ChipFile). file.fd) w.files) agree.numbers_differ in
    let by : claim_by w.requests actor ≡ Some request = claim_by_any place (claim_by w.requests actor) request e in
    let found : find (is_claim_of actor) w.requests ≡ Some request = claim_found actor w.requests request differ by in
    let is : (not request.held && request.actor == actor) ≡ true = first_true (is_claim_of actor) w.requests request found in
    (first_by_number (is_claim_of actor) w.requests request differ found, unheld request.held (both (not request.held) (request.actor == actor) is).0)
  where
    unheld : (b : Bool) → not b ≡ true → b ≡ false
    unheld true h = sym h
    unheld false h = refl

told_agrees : (actor place : ℕ) (answer : Option ℕ) (len : ℕ) (bytes : List ℕ) (o : Option Request) (w : World) → HoldersAgree w → claim_at place (claim_by w.requests actor) ≡ o → BanksAgree w
    → BanksAgree (told_claim answer len bytes o w).world
told_agrees actor place answer len bytes None w agree e a = a
told_agrees actor place None len bytes (Some request) w agree e a = let c = claim_is actor place request w agree e in drop_agrees request.fd request w agree c.0 c.1 a
told_agrees actor place (Some bits) len bytes (Some request) w agree e a = let c = claim_is actor place request w agree e in hold_agrees bits request.fd request w agree c.0 c.1 a

in_parts_agree : (part : Part) (act : ℕ → World → Outcome) (w : World) → BanksAgree w → ((bits : ℕ) → BanksAgree (act bits w).world) → BanksAgree (in_parts part act w).world
in_parts_agree Whole act w a h = a
in_parts_agree Ask act w a h = a
in_parts_agree (Tell None) act w a h = a
in_parts_agree (Tell (Some bits)) act w a h = h bits

on_request_agree : (act : Lines → Resolved → World → Outcome) (o : Option Request) (w : World) → BanksAgree w → ((request : Request) → o ≡ Some request → BanksAgree (act request.lines request.settings w).world)
    → BanksAgree (on_request act o w).world
on_request_agree act None w a h = a
on_request_agree act (Some request) w a h = h request refl

config_agrees : (place fd : ℕ) (bytes : List ℕ) (part : Part) (request : Request) (w : World) → HoldersAgree w → request_at w.requests fd ≡ Some request → request.held ≡ true → request.place ≡ place
    → BanksAgree w → BanksAgree (set_config place fd bytes part request.lines request.settings w).world
config_agrees place fd bytes part request w agree is held here a =
    let after : Resolved = resolved_for bytes request.lines.count in
    let set : World = record w { requests = change_first (has_number fd) (with_settings (settings_after request.settings after request.lines.count)) w.requests } in
    let act : ℕ → World → Outcome = λ bits v. done (reconfigure place fd request.lines request.settings after bits v) in
    agree_unless (config_refusal place request.lines bytes w) w (in_parts part act w) a
    (λ _. in_parts_agree part act w a (λ bits. reconfigured_lines place after bits 0 (offsets_of request.lines) set (subst (λ p. AreHeld p (offsets_of request.lines) w) here (held_request w fd request agree is held)) a))

-- the request of a number is held, of this place
held_here : (place : ℕ) (o : Option Request) (request : Request) → (is_hold o && is_place place (request_place o)) ≡ true → o ≡ Some request → (request.held ≡ true) × (request.place ≡ place)
held_here place o request h is =
    let two = both (is_hold o) (is_place place (request_place o)) h in
    (sym (ap is_hold is) ∙ two.0, same_number request.place place (sym (ap (λ x. is_place place (request_place x)) is) ∙ two.1))

request_commands : (command : Command) → is_for_chips command ≡ false → (place fd len : ℕ) (part : Part) (w : World) → command_refusal place fd len command part w ≡ None → is_request_file place fd w ≡ true
request_commands command kind place fd len part w e =
    let short = when (nat_lt len (size_of command)) Fault in
    let wrong = when (not (has_part command part)) Inval in
    let one = nothing_first (kind_refusal place fd (is_for_chips command) w) (first_of (short ∷ wrong ∷ [])) e in
    let of_request : request_file_refusal place fd w ≡ None = subst (λ b. kind_refusal place fd b w ≡ None) kind one.0 in
    its_kind (is_chip_file place fd w || is_request_file place fd w) (is_request_file place fd w) of_request

acts_agree : (actor place fd len : ℕ) (command : Command) (bytes : List ℕ) (part : Part) (w : World) → HoldersAgree w → command_refusal place fd len command part w ≡ None → BanksAgree w
    → BanksAgree (act_on actor place fd command bytes part w).world
acts_agree actor place fd len ChipInfo bytes part w agree e a = a
acts_agree actor place fd len LineInfo bytes part w agree e a = agree_unless _ w _ a (λ _. a)
acts_agree actor place fd len Watch bytes part w agree e a = agree_unless _ w _ a (λ _. a)
acts_agree actor place fd len Unwatch bytes part w agree e a = agree_unless _ w _ a (λ _. a)
acts_agree actor place fd len GetLine bytes part w agree e a =
    agree_unless (request_fault bytes) w (claim place actor (asked_in bytes) w) a
    (λ _. agree_unless (claim_refusal place actor (asked_in bytes) w) w (replies (Go w.next) (claim_lines place actor (asked_in bytes) w)) a (λ free. claim_agrees place actor (asked_in bytes) w free a))
acts_agree actor place fd len SetConfig bytes part w agree e a = on_request_agree (set_config place fd bytes part) (request_at w.requests fd) w a
    (λ request is. let h = held_here place (request_at w.requests fd) request (request_commands SetConfig refl place fd len part w e) is in config_agrees place fd bytes part request w agree is h.0 h.1 a)
acts_agree actor place fd len GetValues bytes part w agree e a = on_request_agree (get_values place bytes part) (request_at w.requests fd) w a
    (λ request is. agree_unless (when (not (has_bit_below request.lines.count (mask_in bytes))) Inval) w _ a (λ _. in_parts_agree part _ w a (λ bits. a)))
acts_agree actor place fd len SetValues bytes part w agree e a = on_request_agree (set_values place bytes part) (request_at w.requests fd) w a
    (λ request is. agree_unless (set_values_refusal place request.lines (mask_in bytes) w) w _ a
    (λ _. in_parts_agree part _ w a (λ bits. drive_agrees place (mask_in bytes) (bits_in bytes) 0 (offsets_of request.lines) w a)))

checked_agrees : (actor place fd len : ℕ) (command : Command) (bytes : List ℕ) (part : Part) (w : World) → HoldersAgree w → BanksAgree w → BanksAgree (checked actor place fd len command bytes part w).world
checked_agrees actor place fd len command bytes part w agree a =
    agree_unless (command_refusal place fd len command part w) w (act_on actor place fd command (take (size_of command) bytes) part w) a (λ e. acts_agree actor place fd len command (take (size_of command) bytes) part w agree e a)

in_part_agrees : (actor place fd len : ℕ) (command : Command) (bytes : List ℕ) (part : Part) (w : World) → HoldersAgree w → BanksAgree w → BanksAgree (in_part actor place fd len command bytes part w).world
in_part_agrees actor place fd len ChipInfo bytes part w agree a = checked_agrees actor place fd len ChipInfo bytes part w agree a
in_part_agrees actor place fd len LineInfo bytes part w agree a = checked_agrees actor place fd len LineInfo bytes part w agree a
in_part_agrees actor place fd len Watch bytes part w agree a = checked_agrees actor place fd len Watch bytes part w agree a
in_part_agrees actor place fd len Unwatch bytes part w agree a = checked_agrees actor place fd len Unwatch bytes part w agree a
in_part_agrees actor place fd len GetLine bytes Whole w agree a = checked_agrees actor place fd len GetLine bytes Whole w agree a
in_part_agrees actor place fd len GetLine bytes Ask w agree a = checked_agrees actor place fd len GetLine bytes Ask w agree a
in_part_agrees actor place fd len GetLine bytes (Tell answer) w agree a = told_agrees actor place answer len bytes (claim_at place (claim_by w.requests actor)) w agree refl a
in_part_agrees actor place fd len SetConfig bytes part w agree a = checked_agrees actor place fd len SetConfig bytes part w agree a
in_part_agrees actor place fd len GetValues bytes part w agree a = checked_agrees actor place fd len GetValues bytes part w agree a
in_part_agrees actor place fd len SetValues bytes part w agree a = checked_agrees actor place fd len SetValues bytes part w agree a

by_number_agrees : (actor place fd len : ℕ) (command : Option Command) (bytes : List ℕ) (part : Part) (w : World) → HoldersAgree w → BanksAgree w → BanksAgree (by_number actor place fd len command bytes part w).world
by_number_agrees actor place fd len None bytes part w agree a = a
by_number_agrees actor place fd len (Some command) bytes part w agree a = in_part_agrees actor place fd len command bytes part w agree a

opened_agrees : (o : Option ℕ) (w : World) → BanksAgree w → BanksAgree (open_at o w).world
opened_agrees None w a = a
opened_agrees (Some place) w a = agree_unless (open_refusal place w) w _ a (λ _. a)

found_agrees : (lines : List (ℕ × ℕ)) (w : World) → BanksAgree w → BanksAgree (found lines w).world
found_agrees [] w a = a
found_agrees (line ∷ lines) w a = a

text_agrees : (r : Result (List ℕ) Errno) (w : World) → BanksAgree w → BanksAgree (read_outcome r w).world
text_agrees (Ok text) w a = a
text_agrees (Err errno) w a = a

-- the pins of a place, or the interrupts of its lines, change
others_change : (place : ℕ) (f : Place → Place) (w : World) → ((x : Place) → (f x).descs ≡ x.descs) → ((x : Place) → (f x).bank ≡ x.bank) → BanksAgree w → BanksAgree (with_place place f w)
others_change place f w descs bank a =
    with_places place f w (λ x. let t = place_at w place in record {
      as_many = ap length (descs t) ∙ x.as_many ∙ sym (ap length (bank t));
      lines = λ o. subst (λ l. LineAgrees (desc_at (f t).descs o).holder (levels_at l o)) (sym (bank t)) (subst (λ l. LineAgrees (desc_at l o).holder (levels_at t.bank o)) (sym (descs t)) (x.lines o));
    }) a

stay : (w : World) (actor : ℕ) (call : Call) → HoldersAgree w → BanksAgree w → BanksAgree (step w actor call).world
stay w actor (Probe label lines kind) agree a = agree_unless (when (nat_le PLACES (length w.chips)) NoSpc) w _ a (λ _. append_at PlaceAgrees w.places (new_place lines ∷ []) a (one_new lines))
stay w actor (Unplug place false) agree a = agree_unless (unplug_refusal place w) w _ a (λ _. a)
stay w actor (Unplug place true) agree a = agree_unless (when (not (is_unplugging actor w place)) Busy) w _ a (λ _. a)
stay w actor (MakeDir path) agree a = agree_unless (mkdir_refusal (node_at path) w.tree) w _ a (λ _. a)
stay w actor (RemoveDir path) agree a = agree_unless (rmdir_refusal (node_at path) w.tree) w _ a (λ _. a)
stay w actor (Write path value) agree a = agree_unless (write_refusal (node_at path) value w.tree) w _ a (λ _. a)
stay w actor (Read path) agree a = text_agrees (read_answer (node_at path) w.tree) w a
stay w actor (Live device) agree a = agree_unless (live_refusal device (places_left w) w.tree) w (gone_live device w) a
    (λ _. let tree : List TreeRow = with_state device (LiveState (length w.chips)) w.tree in append_at PlaceAgrees w.places (map (place_of_bank tree) (banks_of device w.tree)) a (banks_agree tree (banks_of device w.tree)))
stay w actor (Remove device false) agree a = agree_unless (remove_refusal device w.tree) w _ a (λ _. a)
stay w actor (Remove device true) agree a = agree_unless (when (length (removed_places device actor w) == 0) Busy) w _ a (λ _. a)
stay w actor (Tick mono real) agree a = agree_unless (clock_refusal mono real w) w (done (fire (record w { mono = mono; real = real }))) a
    (λ _. same_places w (fire (record w { mono = mono; real = real })) (settle_each_places (fires mono w.timers) (record w { mono = mono; real = real })) a)
stay w actor (Pin place what) agree a = agree_unless (first_of (place_refusal place w ∷ pin_refusal (lines_at w place) (place_at w place) what ∷ [])) w _ a
    (λ _. others_change place (λ tables. record tables { pins = pin_done what tables.pins }) w (λ x. refl) (λ x. refl) a)
stay w actor (Irq place offset what) agree a = agree_unless (first_of (place_refusal place w ∷ act_refusal (place_at w place).irqs offset what (irq_line (place_at w place) offset) ∷ [])) w _ a
    (λ _. others_change place (λ tables. record tables { irqs = change_at first_irq offset (irq_done what) tables.irqs }) w (λ x. refl) (λ x. refl) a)
stay w actor (Pull place offset up) agree a = agree_unless (level_refusal place offset (is_simulated (kind_at w place)) w) w _ a (λ _. pull_agrees place offset up w a)
stay w actor (Level place offset pull) agree a = agree_unless (level_refusal place offset (is_simulated (kind_at w place)) w) w _ a (λ _. a)
stay w actor (Interrupt place offset up) agree a = agree_unless (level_refusal place offset (not (is_simulated (kind_at w place))) w) w _ a (λ _. pull_agrees place offset up w a)
stay w actor (OpenChip word) agree a = opened_agrees (place_of_word w.chips word) w a
stay w actor (Find place name) agree a = found_agrees (flat_map (named_at name w) (searched place w)) w a
stay w actor (Ioctl place fd cmd len bytes part) agree a = by_number_agrees actor place fd len (command_of cmd) bytes part w agree a
stay w actor (ReadEdges place fd len) agree a = agree_unless (first_of (request_file_refusal place fd w ∷ read_refusal LINE_EVENT_SIZE len (length (events_for fd w)) ∷ [])) w _ a (λ _. a)
stay w actor (ReadInfo place fd len) agree a = agree_unless (first_of (chip_file_refusal place fd w ∷ read_refusal INFO_CHANGED_SIZE len (length (changes_for fd w)) ∷ [])) w _ a (λ _. a)
stay w actor (PollLine place fd) agree a = agree_unless (request_file_refusal place fd w) w _ a (λ _. a)
stay w actor (PollChip place fd) agree a = agree_unless (chip_file_refusal place fd w) w _ a (λ _. a)
stay w actor (Close fd) agree a = agree_unless (when (not (is_open fd w)) BadF) w _ a (λ _. close_agrees (request_at w.requests fd) (record w { files = without_first (is_file fd) w.files }) a)
stay w actor (RefusedCall place poll) agree a = a

at_first : BanksAgree opening
at_first place = no_place_agrees

pub banks_stay_agreed : BanksStayAgreed
banks_stay_agreed = record { opens = at_first; stay = stay }

module _ {K : Type 0} (stands_for : K → World → Type 0) where
  agreed_after : (w : World) (history : List (Entry K Call Reply Gift)) → HoldersAgree w → BanksAgree w → BanksAgree (fold_from (machine stands_for) w history)
  agreed_after w [] agree a = a
  agreed_after w (e ∷ history) agree a = agreed_after (step w e.actor e.call).world history (holders_stay_agreed w e.actor e.call agree) (stay w e.actor e.call agree a)

  pub banks_always_agree : BanksAlwaysAgree stands_for
  banks_always_agree = always stands_for (λ history. BanksAgree (world_of stands_for history)) (λ history legal. agreed_after opening history opens at_first)
