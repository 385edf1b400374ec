-- Each call keeps what are names in a world names.
use Rattle.std.proofs.Common.{◌||◌, ◌≡◌, ◌+◌, ℕ, zero, suc, List, [], ◌∷◌, ◌++◌, length, map, replicate, take, refl, sym, ◌∙◌, subst, Bool, true, false, cond, Option, Some, None, IsTrue, arith}
use Rattle.std.specs.Prelude.{◌==◌, ◌&&◌, Result, Ok, Err, codes, nat_le, not, slice_index_or, unwrap_or}
use Rattle.std.specs.List.{filter, find, list_all}
use Rattle.std.specs.Option.{option_map}
use Rattle.std.specs.Str.{bytes_eq}
use Rattle.std.proofs.lemmas.Bool.{and_from, and_parts}
use Rattle.std.proofs.lemmas.Bool.Decides.{nat_tests}
use Rattle.std.proofs.lemmas.List.{length-append, length-take}
use Rattle.std.proofs.lemmas.List.Folds.{list_all-append}
use Rattle.gl_attrs.specs.Setting.{resolved_for}
use Rattle.gl_bank.specs.Level.{first_levels, levels_at, pulled}
use Rattle.gl_bank.specs.declared.levels.Change.{Change}
use Rattle.gl_bank.specs.declared.levels.Levels.{Levels}
use Rattle.gl_base.proofs.AtPositions.{Each-change_at, Each-change_each}
use Rattle.gl_base.proofs.Labels.{label_bytes_are_nonzero}
use Rattle.gl_base.proofs.Names.{name_before_zero}
use Rattle.gl_base.specs.Bits.{has_bit}
use Rattle.gl_base.specs.Label.{is_label_byte}
use Rattle.gl_base.specs.Lines.{offsets_of}
use Rattle.gl_base.specs.Name.{is_name, is_nonzero, name_in}
use Rattle.gl_base.specs.Positions.{change_at}
use Rattle.gl_base.specs.Refusals.{first_of, when}
use Rattle.gl_base.specs.Rows.{Each, change_first, without_first}
use Rattle.gl_base.specs.declared.errno.Errno.{Errno}
use Rattle.gl_base.specs.declared.errno.Errno.TheVariants.{BadF, Busy, NoSpc}
use Rattle.gl_base.specs.declared.irq.IrqDo.{IrqDo}
use Rattle.gl_base.specs.declared.lines.Lines.{Lines}
use Rattle.gl_base.specs.declared.limits.TheConstants.{PLACES}
use Rattle.gl_base.specs.declared.pin.PinDo.{PinDo}
use Rattle.gl_base.specs.declared.settings.Resolved.{Resolved}
use Rattle.gl_debounce.specs.Fire.{fires}
use Rattle.gl_debounce.specs.Timer.{hard_at, settled_at_raw, with_raw, with_timer}
use Rattle.gl_debounce.specs.declared.timer.Fired.{Fired}
use Rattle.gl_desc.specs.Desc.{claimed, first_desc, freed, hogged, named, settled}
use Rattle.gl_desc.specs.declared.desc.Desc.{Desc}
use Rattle.gl_desc.specs.declared.hog.Hog.{Hog as HogPlan}
use Rattle.gl_hogs.specs.Hogs.{hogged_descs}
use Rattle.gl_irq.specs.Irq.{act_refusal, done as irq_done, first_irq}
use Rattle.gl_registry.specs.Chips.{moved_on, new_chip, no_chip}
use Rattle.gl_registry.specs.declared.registry.Chip.{Chip}
use Rattle.gl_simtree.specs.Calls.{leaving_state, live_refusal, made, mkdir_refusal, read_answer, remove_refusal, removed, rmdir_refusal, write_refusal, written}
use Rattle.gl_simtree.specs.Cuts.{before_slash, behind_slash}
use Rattle.gl_simtree.specs.Forms.{is_bank, is_device, is_part}
use Rattle.gl_simtree.specs.Nodes.{in_bank, in_device, in_hog, in_line, line_number, node_at, of_bank, of_device, of_line}
use Rattle.gl_simtree.specs.Plans.{chip_label, hogs_from, line_hog, line_name, names_from, planned_hogs, planned_lines, planned_names}
use Rattle.gl_simtree.specs.Rows.{banks_of, is_row_in, is_row_of, new_row, row_at, row_with_state, state_of, with_state}
use Rattle.gl_simtree.specs.Values.{lines_of_text, row_written, some_text, way_of_text}
use Rattle.gl_simtree.specs.declared.node.Directory.TheVariants.{Device, Bank, Line, Hog}
use Rattle.gl_simtree.specs.declared.node.File.{File}
use Rattle.gl_simtree.specs.declared.node.File.TheVariants.{Live as LiveFile, ChipName, NumLines, Label, LineName, HogName, Direction}
use Rattle.gl_simtree.specs.declared.node.Node.{Node}
use Rattle.gl_simtree.specs.declared.node.Node.TheVariants.{Directory as DirectoryNode, File as FileNode}
use Rattle.gl_simtree.specs.declared.row.TreeRow.{TreeRow}
use Rattle.gl_simtree.specs.declared.row.TreeRow.TheVariants.{Device as DeviceRow, Bank as BankRow, Line as LineRow, Hog as HogRow}
use Rattle.gl_simtree.specs.declared.row.State.{State}
use Rattle.gl_simtree.specs.declared.row.State.TheVariants.{Off, Live as LiveState}
use Rattle.gl_uapi.specs.Command.{command_of, size_of}
use Rattle.gl_uapi.specs.Fields.{stretch}
use Rattle.gl_uapi.specs.declared.commands.Command.{Command}
use Rattle.gl_uapi.specs.declared.commands.Command.TheVariants.{ChipInfo, LineInfo, Watch, Unwatch, GetLine, SetConfig, GetValues, SetValues}
use Rattle.gl_uapi.specs.declared.layout.TheConstants.{CHANGED_CONFIG, CHANGED_RELEASED, CHANGED_REQUESTED, NAME_SIZE, REQUEST_CONSUMER}
use Rattle.gl_watch.specs.Files.{is_file}
use Rattle.gl_world.specs.History.{fold_from, AnsweredFrom}
use Rattle.gl_world.specs.declared.history.Entry.{Entry}
use Rattle.gl_model.specs.declared.call.Call.{Call}
use Rattle.gl_model.specs.declared.call.Call.TheVariants.{Probe, Unplug, MakeDir, RemoveDir, Write, Read, Live, Remove, Tick, Pin, Irq, Pull, Level, Interrupt, OpenChip, Find, Ioctl, ReadEdges, ReadInfo, PollLine, PollChip, Close, Refused as RefusedCall}
use Rattle.gl_model.specs.declared.call.Part.{Part}
use Rattle.gl_model.specs.declared.call.Part.TheVariants.{Whole, Ask, Tell}
use Rattle.gl_model.specs.declared.gift.Gift.{Gift}
use Rattle.gl_model.specs.declared.place.Place.{Place}
use Rattle.gl_model.specs.declared.reply.Reply.{Reply}
use Rattle.gl_model.specs.AskedLines.{asked_in, request_fault}
use Rattle.gl_model.specs.Chips.{new_place, place_refusal, places_left}
use Rattle.gl_model.specs.Claiming.{claim_at, claim_by, claim_refusal, held, hold_claim, new_claim, told_claim, with_descs}
use Rattle.gl_model.specs.Clock.{clock_refusal, fire, settle, settle_each, tick}
use Rattle.gl_model.specs.Configuring.{configure, configure_each, configure_from, configured_on, settings_of, with_levels, with_period, config_refusal, is_debounced_hard, is_directed, reconfigure_from, set_config, settings_after, with_settings}
use Rattle.gl_model.specs.Edges.{deadline_of, edge, edge_for, raw_edge, raw_edge_for, input_holder}
use Rattle.gl_model.specs.Ioctl.{act_on, by_number, checked, in_part}
use Rattle.gl_model.specs.Machine.{machine, world_of}
use Rattle.gl_model.specs.Names.{HasAllNames, HasNamedLines, HasNamedTexts, HasNames, IsNamedChip, IsNamedLine, LegalWorldsHaveNames, NamesStay}
use Rattle.gl_model.specs.Notify.{notify, notify_each}
use Rattle.gl_model.specs.Opening.{close, close_request, found, is_open, open_at, with_timers_let_go, with_lines_freed, without_request}
use Rattle.gl_model.specs.OpenFiles.{command_refusal, in_parts, on_request}
use Rattle.gl_model.specs.Outcome.{Outcome, done, refused_or}
use Rattle.gl_model.specs.Interrupts.{irq, irq_line}
use Rattle.gl_model.specs.Pins.{pin, pin_done, pin_refusal}
use Rattle.gl_model.specs.Places.{kind_at, lines_at, no_place, place_at, with_place}
use Rattle.gl_model.specs.Pulls.{pull_change, pull_line}
use Rattle.gl_model.specs.Removal.{change_where, end_at, is_removing_of, is_unplugging, is_up_of, remove_begun, remove_ended, removed_places, unplug_begun, unplug_refusal}
use Rattle.gl_model.specs.Step.{step}
use Rattle.gl_model.specs.Tree.{chip_of_bank, gone_live, place_of_bank, read_outcome, with_names}
use Rattle.gl_model.specs.Values.{bits_in, drive_from, driven_with, get_values, mask_in, set_values}
use Rattle.gl_model.specs.World.{World, Request, has_number, opening, request_at}
use Rattle.gl_model.proofs.Boards.{board, close-board, found-board, ioctl-board, keeps, open_at-board, raw_edge-board, read_outcome-board, tick-board}
use Rattle.gl_model.specs.Fits.{FitsCall}
use Rattle.gl_model.proofs.MachineLaws.{always}

-- what is true of each row

module _ {X : Type 0} (P : X → Type 0) where
  each_append : (xs ys : List X) → Each P xs → Each P ys → Each P (xs ++ ys)
  each_append [] ys s h = h
  each_append (x ∷ xs) ys s h = (s.0, each_append xs ys s.1 h)

  each_first : (test : X → Bool) (f : X → X) (xs : List X) → ((x : X) → P x → P (f x)) → Each P xs → Each P (change_first test f xs)
  each_first test f [] h s = tt
  each_first test f (x ∷ xs) h s = elim (test x) as (λ b. Each P (cond b (f x ∷ xs) (x ∷ change_first test f xs))) [ true ↦ (h x s.0, s.1) | false ↦ (s.0, each_first test f xs h s.1) ]

  each_without : (test : X → Bool) (xs : List X) → Each P xs → Each P (without_first test xs)
  each_without test [] s = tt
  each_without test (x ∷ xs) s = elim (test x) as (λ b. Each P (cond b xs (x ∷ without_first test xs))) [ true ↦ s.1 | false ↦ (s.0, each_without test xs s.1) ]

  each_where : (test : ℕ → Bool) (f : X → X) (n : ℕ) (xs : List X) → ((x : X) → P x → P (f x)) → Each P xs → Each P (change_where test f n xs)
  each_where test f n [] h s = tt
  each_where test f n (x ∷ xs) h s = (elim (test n) as (λ b. P (cond b (f x) x)) [ true ↦ h x s.0 | false ↦ s.0 ], each_where test f (n + 1) xs h s.1)

  each_filter : (test : X → Bool) (xs : List X) → Each P xs → Each P (filter test xs)
  each_filter test [] s = tt
  each_filter test (x ∷ xs) s = elim (test x) as (λ b. Each P (cond b (x ∷ filter test xs) (filter test xs))) [ true ↦ (s.0, each_filter test xs s.1) | false ↦ each_filter test xs s.1 ]

  each_replicate : (n : ℕ) (x : X) → P x → Each P (replicate n x)
  each_replicate zero x h = tt
  each_replicate (suc n) x h = (h, each_replicate n x h)

  each_read : (xs : List X) (i : ℕ) (d : X) → P d → Each P xs → P (slice_index_or xs i d)
  each_read [] i d h s = h
  each_read (x ∷ xs) zero d h s = s.0
  each_read (x ∷ xs) (suc i) d h s = each_read xs i d h s.1

  abbrev IfThere : Option X → Type 0
  IfThere None = Unit {0}
  IfThere (Some x) = P x

  there_found : (test : X → Bool) (xs : List X) → Each P xs → IfThere (find test xs)
  there_found test [] s = tt
  there_found test (x ∷ xs) s = elim (test x) as (λ b. IfThere (cond b (Some x) (find test xs))) [ true ↦ s.0 | false ↦ there_found test xs s.1 ]

-- names

dashed_name : (device bank : List ℕ) → IsTrue (is_part device) → IsTrue (is_part bank) → IsTrue (is_name (device ++ 45 ∷ bank))
dashed_name device bank d b =
    let d_parts = and_parts (nat_le 1 (length device) && nat_le (length device) 15) (list_all is_label_byte device) d in
    let d_size = and_parts (nat_le 1 (length device)) (nat_le (length device) 15) d_parts.0 in
    let b_parts = and_parts (nat_le 1 (length bank) && nat_le (length bank) 15) (list_all is_label_byte bank) b in
    let b_size = and_parts (nat_le 1 (length bank)) (nat_le (length bank) 15) b_parts.0 in
    let d_short : nat_le (length device) 15 ≡ true = d_size.1 in
    let b_short : nat_le (length bank) 15 ≡ true = b_size.1 in
    let size : length (device ++ 45 ∷ bank) ≡ length device + length (45 ∷ bank) = length-append device (45 ∷ bank) in
    let short : nat_le (length (device ++ 45 ∷ bank)) 31 ≡ true = grind (arith, nat_tests) in
    let front : list_all is_nonzero device ≡ true = label_bytes_are_nonzero device d_parts.1 in
    let back : list_all is_nonzero (45 ∷ bank) ≡ true = label_bytes_are_nonzero bank b_parts.1 in
    let all : list_all is_nonzero (device ++ 45 ∷ bank) ≡ true =
    list_all-append is_nonzero device (45 ∷ bank) ∙ and_from (list_all is_nonzero device) (list_all is_nonzero (45 ∷ bank)) front back in
    and_from (nat_le (length (device ++ 45 ∷ bank)) 31) (list_all is_nonzero (device ++ 45 ∷ bank)) short all

field_name : (field : List ℕ) → IsTrue (is_name (name_in field))
field_name field = name_before_zero (take 31 field) (omega (arith, length-take 31 field))

-- the tree

abbrev MakesNamed : Option Node → Type 0
MakesNamed None = Unit {0}
MakesNamed (Some (FileNode directory file)) = Unit {0}
MakesNamed (Some (DirectoryNode directory)) = HasNamedTexts (new_row directory)

makes_if : (b : Bool) (x : Node) (o : Option Node) → MakesNamed (Some x) → MakesNamed o → MakesNamed (cond b (Some x) o)
makes_if true x o h k = h
makes_if false x o h k = k

makes_in_hog : (device bank : List ℕ) (line : ℕ) (path : List ℕ) → MakesNamed (in_hog device bank line path)
makes_in_hog device bank line path =
    makes_if (bytes_eq path (codes "name")) (FileNode (Hog device bank line) HogName) _ tt
    (makes_if (bytes_eq path (codes "direction")) (FileNode (Hog device bank line) Direction) None tt tt)

makes_in_line : (device bank : List ℕ) (line : ℕ) (part : List ℕ) (rest : Option (List ℕ)) → MakesNamed (in_line device bank line part rest)
makes_in_line device bank line part None =
    makes_if (bytes_eq part (codes "name")) (FileNode (Line device bank line) LineName) _ tt
    (makes_if (bytes_eq part (codes "hog")) (DirectoryNode (Hog device bank line)) None refl tt)
makes_in_line device bank line part (Some rest) =
    elim (bytes_eq part (codes "hog")) as (λ b. MakesNamed (cond b (in_hog device bank line rest) None)) [ true ↦ makes_in_hog device bank line rest | false ↦ tt ]

makes_of_line : (device bank : List ℕ) (line : Option ℕ) (rest : Option (List ℕ)) → MakesNamed (of_line device bank line rest)
makes_of_line device bank None rest = tt
makes_of_line device bank (Some line) None = refl
makes_of_line device bank (Some line) (Some rest) = makes_in_line device bank line (before_slash rest) (behind_slash rest)

makes_in_bank : (device bank path : List ℕ) → MakesNamed (in_bank device bank path)
makes_in_bank device bank path =
    makes_if (bytes_eq path (codes "chip_name")) (FileNode (Bank device bank) ChipName) _ tt
    (makes_if (bytes_eq path (codes "num_lines")) (FileNode (Bank device bank) NumLines) _ tt
    (makes_if (bytes_eq path (codes "label")) (FileNode (Bank device bank) Label) _ tt
    (makes_of_line device bank (line_number (before_slash path)) (behind_slash path))))

makes_of_bank : (device part : List ℕ) (b : Bool) (rest : Option (List ℕ)) → IsTrue (is_part device) → is_bank part ≡ b → MakesNamed (of_bank device (cond b (Some part) None) rest)
makes_of_bank device part false rest d e = tt
makes_of_bank device part true None d e = (d, (and_parts (is_part part) (not (bytes_eq part (codes "live"))) e).0, refl)
makes_of_bank device part true (Some rest) d e = makes_in_bank device part rest

makes_in_device : (device path : List ℕ) → IsTrue (is_part device) → MakesNamed (in_device device path)
makes_in_device device path d =
    makes_if (bytes_eq path (codes "live")) (FileNode (Device device) LiveFile) _ tt
    (makes_of_bank device (before_slash path) (is_bank (before_slash path)) (behind_slash path) d refl)

makes_of_device : (part : List ℕ) (b : Bool) (rest : Option (List ℕ)) → is_device part ≡ b → MakesNamed (of_device (cond b (Some part) None) rest)
makes_of_device part false rest e = tt
makes_of_device part true None e = tt
makes_of_device part true (Some rest) e = makes_in_device part rest (and_parts (is_part part) _ e).0

makes_named : (path : List ℕ) → MakesNamed (node_at path)
makes_named path = makes_of_device (before_slash path) (is_device (before_slash path)) (behind_slash path) refl

made_named : (node : Option Node) (rows : List TreeRow) → MakesNamed node → Each HasNamedTexts rows → Each HasNamedTexts (made node rows)
made_named None rows h s = s
made_named (Some (FileNode directory file)) rows h s = s
made_named (Some (DirectoryNode directory)) rows h s = each_append HasNamedTexts rows (new_row directory ∷ []) s (h, tt)

removed_named : (node : Option Node) (rows : List TreeRow) → Each HasNamedTexts rows → Each HasNamedTexts (removed node rows)
removed_named None rows s = s
removed_named (Some (FileNode directory file)) rows s = s
removed_named (Some (DirectoryNode directory)) rows s = each_without HasNamedTexts (is_row_of directory) rows s

-- a text that is written is the value
text_named : (make : List ℕ → TreeRow) (row : TreeRow) (value : List ℕ) → HasNamedTexts row → (IsTrue (is_name value) → HasNamedTexts (make value)) → IsTrue (is_name value)
    → HasNamedTexts (unwrap_or (option_map make (some_text value)) row)
text_named make row [] s h n = s
text_named make row (byte ∷ value) s h n = h n

row_named : (file : File) (value : List ℕ) (row : TreeRow) → IsTrue (is_name value) → HasNamedTexts row → HasNamedTexts (unwrap_or (row_written file value row) row)
row_named LiveFile value row n s = s
row_named ChipName value row n s = s
row_named NumLines value (BankRow device bank lines label) n s =
    elim (lines_of_text value) as (λ o. HasNamedTexts (unwrap_or (option_map (λ l. BankRow device bank l label) o) (BankRow device bank lines label))) [ None ↦ s | Some l ↦ s ]
row_named NumLines value (DeviceRow device state) n s = s
row_named NumLines value (LineRow device bank line name) n s = s
row_named NumLines value (HogRow device bank line name way) n s = s
row_named Label value (BankRow device bank lines label) n s = text_named (λ l. BankRow device bank lines l) (BankRow device bank lines label) value s (λ h. (s.0, s.1, h)) n
row_named Label value (DeviceRow device state) n s = s
row_named Label value (LineRow device bank line name) n s = s
row_named Label value (HogRow device bank line name way) n s = s
row_named LineName value (LineRow device bank line name) n s = text_named (λ t. LineRow device bank line t) (LineRow device bank line name) value s (λ h. h) n
row_named LineName value (DeviceRow device state) n s = s
row_named LineName value (BankRow device bank lines label) n s = s
row_named LineName value (HogRow device bank line name way) n s = s
row_named HogName value (HogRow device bank line name way) n s = text_named (λ t. HogRow device bank line t way) (HogRow device bank line name way) value s (λ h. h) n
row_named HogName value (DeviceRow device state) n s = s
row_named HogName value (BankRow device bank lines label) n s = s
row_named HogName value (LineRow device bank line name) n s = s
row_named Direction value (HogRow device bank line name way) n s =
    elim (way_of_text value) as (λ o. HasNamedTexts (unwrap_or (option_map (λ v. HogRow device bank line name v) o) (HogRow device bank line name way))) [ None ↦ s | Some v ↦ s ]
row_named Direction value (DeviceRow device state) n s = s
row_named Direction value (BankRow device bank lines label) n s = s
row_named Direction value (LineRow device bank line name) n s = s

written_named : (node : Option Node) (value : List ℕ) (rows : List TreeRow) → IsTrue (is_name value) → Each HasNamedTexts rows → Each HasNamedTexts (written node value rows)
written_named None value rows n s = s
written_named (Some (DirectoryNode directory)) value rows n s = s
written_named (Some (FileNode directory file)) value rows n s =
    each_first HasNamedTexts (is_row_of directory) (λ row. unwrap_or (row_written file value row) row) rows (λ row h. row_named file value row n h) s

state_named : (state : State) (row : TreeRow) → HasNamedTexts row → HasNamedTexts (row_with_state state row)
state_named state (DeviceRow device s) h = tt
state_named state (BankRow device bank lines label) h = h
state_named state (LineRow device bank line name) h = h
state_named state (HogRow device bank line name way) h = h

set_named : (device : List ℕ) (state : State) (rows : List TreeRow) → Each HasNamedTexts rows → Each HasNamedTexts (with_state device state rows)
set_named device state rows s = each_first HasNamedTexts (is_row_of (Device device)) (row_with_state state) rows (state_named state) s

-- the banks that become chips

label_named : (device bank label : List ℕ) → HasNamedTexts (BankRow device bank 1 label) → IsTrue (is_name (chip_label device bank label))
label_named device bank [] h = dashed_name device bank h.0 h.1
label_named device bank (byte ∷ label) h = h.2

chip_named : (bank : TreeRow) → HasNamedTexts bank → IsNamedChip (chip_of_bank bank)
chip_named (BankRow device bank lines label) h = label_named device bank label h
chip_named (DeviceRow device state) h = refl
chip_named (LineRow device bank line name) h = refl
chip_named (HogRow device bank line name way) h = refl

chips_named : (banks : List TreeRow) → Each HasNamedTexts banks → Each IsNamedChip (map chip_of_bank banks)
chips_named [] s = tt
chips_named (bank ∷ banks) s = (chip_named bank s.0, chips_named banks s.1)

abbrev IsPlannedName : ℕ × List ℕ → Type 0
IsPlannedName name = IsTrue (is_name name.1)

abbrev IsPlannedHog : HogPlan → Type 0
IsPlannedHog hog = IsTrue (is_name hog.name)

line_named : (o : Option TreeRow) → IfThere HasNamedTexts o → Each IsPlannedName (line_name o)
line_named None h = tt
line_named (Some (DeviceRow device state)) h = tt
line_named (Some (BankRow device bank lines label)) h = tt
line_named (Some (LineRow device bank line name)) h = (h, tt)
line_named (Some (HogRow device bank line name way)) h = tt

hog_named : (o : Option TreeRow) → IfThere HasNamedTexts o → Each IsPlannedHog (line_hog o)
hog_named None h = tt
hog_named (Some (DeviceRow device state)) h = tt
hog_named (Some (BankRow device bank lines label)) h = tt
hog_named (Some (LineRow device bank line name)) h = tt
hog_named (Some (HogRow device bank line name way)) h = (h, tt)

names_named : (device bank : List ℕ) (rows : List TreeRow) (offset n : ℕ) → Each HasNamedTexts rows → Each IsPlannedName (names_from device bank rows offset n)
names_named device bank rows offset zero s = tt
names_named device bank rows offset (suc n) s =
    each_append IsPlannedName (line_name (row_at (Line device bank offset) rows)) (names_from device bank rows (offset + 1) n)
    (line_named (row_at (Line device bank offset) rows) (there_found HasNamedTexts (is_row_of (Line device bank offset)) rows s))
    (names_named device bank rows (offset + 1) n s)

hogs_named : (device bank : List ℕ) (rows : List TreeRow) (offset n : ℕ) → Each HasNamedTexts rows → Each IsPlannedHog (hogs_from device bank rows offset n)
hogs_named device bank rows offset zero s = tt
hogs_named device bank rows offset (suc n) s =
    each_append IsPlannedHog (line_hog (row_at (Hog device bank offset) rows)) (hogs_from device bank rows (offset + 1) n)
    (hog_named (row_at (Hog device bank offset) rows) (there_found HasNamedTexts (is_row_of (Hog device bank offset)) rows s))
    (hogs_named device bank rows (offset + 1) n s)

with_names_named : (names : List (ℕ × List ℕ)) (descs : List Desc) → Each IsPlannedName names → Each IsNamedLine descs → Each IsNamedLine (with_names names descs)
with_names_named [] descs n s = s
with_names_named (name ∷ names) descs n s =
    with_names_named names (change_at first_desc name.0 (named name.1) descs) n.1
    (Each-change_at IsNamedLine first_desc name.0 (named name.1) descs (λ line h. record { name = n.0; consumer = h.consumer }) s)

hogged_named : (hogs : List HogPlan) (descs : List Desc) → Each IsPlannedHog hogs → Each IsNamedLine descs → Each IsNamedLine (hogged_descs hogs descs)
hogged_named [] descs n s = s
hogged_named (hog ∷ hogs) descs n s =
    hogged_named hogs (change_at first_desc hog.offset (hogged hog.name) descs) n.1
    (Each-change_at IsNamedLine first_desc hog.offset (hogged hog.name) descs (λ line h. record { name = h.name; consumer = n.0 }) s)

new_named : (lines : ℕ) → HasNamedLines (new_place lines)
new_named lines = each_replicate IsNamedLine lines first_desc (record { name = refl; consumer = refl })

bank_names : (bank : TreeRow) (tree : List TreeRow) → Each HasNamedTexts tree → Each IsPlannedName (planned_names (Some bank) tree)
bank_names (BankRow device bank lines label) tree s = names_named device bank tree 0 lines s
bank_names (DeviceRow device state) tree s = tt
bank_names (LineRow device bank line name) tree s = tt
bank_names (HogRow device bank line name way) tree s = tt

bank_hogs : (bank : TreeRow) (tree : List TreeRow) → Each HasNamedTexts tree → Each IsPlannedHog (planned_hogs (Some bank) tree)
bank_hogs (BankRow device bank lines label) tree s = hogs_named device bank tree 0 lines s
bank_hogs (DeviceRow device state) tree s = tt
bank_hogs (LineRow device bank line name) tree s = tt
bank_hogs (HogRow device bank line name way) tree s = tt

place_named : (tree : List TreeRow) (bank : TreeRow) → Each HasNamedTexts tree → HasNamedLines (place_of_bank tree bank)
place_named tree bank s =
    let lines = (new_place (planned_lines (Some bank))).descs in
    hogged_named (planned_hogs (Some bank) tree) (with_names (planned_names (Some bank) tree) lines) (bank_hogs bank tree s)
    (with_names_named (planned_names (Some bank) tree) lines (bank_names bank tree s) (new_named (planned_lines (Some bank))))

places_named : (tree banks : List TreeRow) → Each HasNamedTexts tree → Each HasNamedLines (map (place_of_bank tree) banks)
places_named tree [] s = tt
places_named tree (bank ∷ banks) s = (place_named tree bank s, places_named tree banks s)

-- the lines of the places

abbrev Keeps : World → World → Type 0
Keeps w v = Each HasNamedLines w.places → Each HasNamedLines v.places

as_was : (w : World) → Keeps w w
as_was w s = s

then : (w v u : World) → Keeps w v → Keeps v u → Keeps w u
then w v u h k s = k (h s)

keeps_else : (r : Option Errno) (w : World) (out : Outcome) → Keeps w out.world → Keeps w (refused_or r w out).world
keeps_else None w out h = h
keeps_else (Some e) w out h = λ s. s

either : (b : Bool) (v u w : World) → Keeps w v → Keeps w u → Keeps w (cond b v u)
either true v u w h k = h
either false v u w h k = k

-- a change of the tables of a place that keeps the names of its lines
with_place_keep : (place : ℕ) (f : Place → Place) (w : World) → ((tables : Place) → HasNamedLines tables → HasNamedLines (f tables)) → Keeps w (with_place place f w)
with_place_keep place f w h s = Each-change_at HasNamedLines no_place place f w.places h s

lines_keep : (place : ℕ) (offsets : List ℕ) (f : Desc → Desc) (w : World) → ((line : Desc) → IsNamedLine line → IsNamedLine (f line)) → Keeps w (with_place place (with_descs offsets f) w)
lines_keep place offsets f w h = with_place_keep place (with_descs offsets f) w (λ tables s. Each-change_each IsNamedLine first_desc offsets f tables.descs h s)

freed_named : (line : Desc) → IsNamedLine line → IsNamedLine (freed line)
freed_named line h = record { name = h.name; consumer = refl }

settled_named : (line : Desc) → IsNamedLine line → IsNamedLine (settled line)
settled_named line h = record { name = h.name; consumer = h.consumer }

edge_for_keep : (o : Option ℕ) (offset : ℕ) (line : Levels) (up : Bool) (mono : ℕ) (w : World) → Keeps w (edge_for o offset line up mono w)
edge_for_keep None offset line up mono w = as_was w
edge_for_keep (Some fd) offset line up mono w = as_was w

edge_keep : (place offset : ℕ) (up : Bool) (mono : ℕ) (w : World) → Keeps w (edge place offset up mono w)
edge_keep place offset up mono w = edge_for_keep (input_holder (place_at w place) offset) offset (levels_at (place_at w place).bank offset) up mono w

raw_edge_for_keep : (o : Option ℕ) (place offset : ℕ) (up : Bool) (w : World) → Keeps w (raw_edge_for o place offset up w)
raw_edge_for_keep None place offset up w = as_was w
raw_edge_for_keep (Some fd) place offset up w =
    let line : Levels = levels_at (place_at w place).bank offset in
    let later : World = record w { timers = with_timer (with_raw up (deadline_of line w.mono)) place offset w.timers } in
    either (line.debounce_us == 0 || hard_at w.timers place offset) (edge place offset up w.mono w) later w (edge_keep place offset up w.mono w) (as_was w)

raw_edge_keep : (place offset : ℕ) (o : Option Change) (w : World) → Keeps w (raw_edge place offset o w)
raw_edge_keep place offset None w = as_was w
raw_edge_keep place offset (Some change) w = raw_edge_for_keep (input_holder (place_at w place) offset) place offset change.rose w

settle_keep : (line : Fired) (w : World) → Keeps w (settle line w)
settle_keep line w =
    let settled : World = record w { timers = with_timer settled_at_raw line.place line.offset w.timers } in
    either line.changed (edge line.place line.offset line.level line.deadline settled) settled w (edge_keep line.place line.offset line.level line.deadline settled) (as_was w)

settle_each_keep : (lines : List Fired) (w : World) → Keeps w (settle_each lines w)
settle_each_keep [] w = as_was w
settle_each_keep (line ∷ lines) w = then w (settle line w) (settle_each lines (settle line w)) (settle_keep line w) (settle_each_keep lines (settle line w))

tick_keep : (mono real : ℕ) (w : World) → Keeps w (tick mono real w).world
tick_keep mono real w =
    let now : World = record w { mono = mono; real = real } in
    keeps_else (clock_refusal mono real w) w (done (fire now)) (settle_each_keep (fires mono w.timers) now)

pull_line_keep : (place offset : ℕ) (up : Bool) (w : World) → Keeps w (pull_line place offset up w)
pull_line_keep place offset up w =
    let f : Place → Place = λ tables. record tables { bank = change_at first_levels offset (pulled up) tables.bank } in
    then w (with_place place f w) (pull_line place offset up w) (with_place_keep place f w (λ tables s. s))
    (raw_edge_keep place offset (pull_change up (levels_at (place_at w place).bank offset)) (with_place place f w))

pin_keep : (place : ℕ) (what : PinDo) (w : World) → Keeps w (pin place what w).world
pin_keep place what w =
    let f : Place → Place = λ tables. record tables { pins = pin_done what tables.pins } in
    keeps_else (first_of (place_refusal place w ∷ pin_refusal (lines_at w place) (place_at w place) what ∷ [])) w (done (with_place place f w))
    (with_place_keep place f w (λ tables s. s))

irq_keep : (place offset : ℕ) (what : IrqDo) (w : World) → Keeps w (irq place offset what w).world
irq_keep place offset what w =
    let tables : Place = place_at w place in
    let f : Place → Place = λ tables. record tables { irqs = change_at first_irq offset (irq_done what) tables.irqs } in
    keeps_else (first_of (place_refusal place w ∷ act_refusal tables.irqs offset what (irq_line tables offset) ∷ [])) w (done (with_place place f w))
    (with_place_keep place f w (λ tables s. s))

notify_each_keep : (place : ℕ) (offsets : List ℕ) (kind : ℕ) (w : World) → Keeps w (notify_each place offsets kind w)
notify_each_keep place [] kind w = as_was w
notify_each_keep place (offset ∷ offsets) kind w = notify_each_keep place offsets kind (notify place offset kind w)

levels_keep : (place offset : ℕ) (f : Levels → Levels) (w : World) → Keeps w (with_place place (with_levels offset f) w)
levels_keep place offset f w = with_place_keep place (with_levels offset f) w (λ tables s. s)

configure_keep : (place : ℕ) (settings : Resolved) (bits i offset : ℕ) (w : World) → Keeps w (configure place (settings_of settings i) (has_bit bits i) offset w)
configure_keep place settings bits i offset w =
    let before : Levels = levels_at (place_at w place).bank offset in
    let change : Levels → Levels = configured_on (kind_at w place) (settings_of settings i) in
    levels_keep place offset change (record w { timers = with_period place offset before (change before) (is_debounced_hard (settings_of settings i) (has_bit bits i)) w.timers })

configure_from_keep : (place : ℕ) (settings : Resolved) (bits i : ℕ) (offsets : List ℕ) (w : World) → Keeps w (configure_from place settings bits i offsets w)
configure_from_keep place settings bits i [] w = as_was w
configure_from_keep place settings bits i (offset ∷ offsets) w =
    let next : World = configure place (settings_of settings i) (has_bit bits i) offset w in
    then w next (configure_from place settings bits (i + 1) offsets next) (configure_keep place settings bits i offset w) (configure_from_keep place settings bits (i + 1) offsets next)

reconfigure_from_keep : (place : ℕ) (settings : Resolved) (bits i : ℕ) (offsets : List ℕ) (w : World) → Keeps w (reconfigure_from place settings bits i offsets w)
reconfigure_from_keep place settings bits i [] w = as_was w
reconfigure_from_keep place settings bits i (offset ∷ offsets) w =
    let set : World = notify place offset CHANGED_CONFIG (configure place (settings_of settings i) (has_bit bits i) offset w) in
    let next : World = cond (is_directed settings i) set w in
    then w next (reconfigure_from place settings bits (i + 1) offsets next)
    (either (is_directed settings i) set w w (configure_keep place settings bits i offset w) (as_was w))
    (reconfigure_from_keep place settings bits (i + 1) offsets next)

drive_from_keep : (place mask bits i : ℕ) (offsets : List ℕ) (w : World) → Keeps w (drive_from place mask bits i offsets w)
drive_from_keep place mask bits i [] w = as_was w
drive_from_keep place mask bits i (offset ∷ offsets) w =
    let set : World = with_place place (with_levels offset (driven_with (has_bit bits i))) w in
    let next : World = cond (has_bit mask i) set w in
    then w next (drive_from place mask bits (i + 1) offsets next)
    (either (has_bit mask i) set w w (levels_keep place offset (driven_with (has_bit bits i)) w) (as_was w))
    (drive_from_keep place mask bits (i + 1) offsets next)

-- commands

in_parts_keep : (part : Part) (act : ℕ → World → Outcome) (w : World) → ((bits : ℕ) → Keeps w (act bits w).world) → Keeps w (in_parts part act w).world
in_parts_keep Whole act w h = as_was w
in_parts_keep Ask act w h = as_was w
in_parts_keep (Tell None) act w h = as_was w
in_parts_keep (Tell (Some bits)) act w h = h bits

on_request_keep : (act : Lines → Resolved → World → Outcome) (o : Option Request) (w : World)
    → ((lines : Lines) (settings : Resolved) → Keeps w (act lines settings w).world) → Keeps w (on_request act o w).world
on_request_keep act None w h = as_was w
on_request_keep act (Some request) w h = h request.lines request.settings

set_config_keep : (place fd : ℕ) (bytes : List ℕ) (part : Part) (lines : Lines) (settings : Resolved) (w : World) → Keeps w (set_config place fd bytes part lines settings w).world
set_config_keep place fd bytes part lines settings w =
    let after : Resolved = resolved_for bytes lines.count in
    let set : World = record w { requests = change_first (has_number fd) (with_settings (settings_after settings after lines.count)) w.requests } in
    keeps_else (config_refusal place lines bytes w) w _ (in_parts_keep part _ w (λ bits. reconfigure_from_keep place after bits 0 (offsets_of lines) set))

get_values_keep : (place : ℕ) (bytes : List ℕ) (part : Part) (lines : Lines) (settings : Resolved) (w : World) → Keeps w (get_values place bytes part lines settings w).world
get_values_keep place bytes part lines settings w = keeps_else _ w _ (in_parts_keep part _ w (λ bits. as_was w))

set_values_keep : (place : ℕ) (bytes : List ℕ) (part : Part) (lines : Lines) (settings : Resolved) (w : World) → Keeps w (set_values place bytes part lines settings w).world
set_values_keep place bytes part lines settings w = keeps_else _ w _ (in_parts_keep part _ w (λ answered. drive_from_keep place (mask_in bytes) (bits_in bytes) 0 (offsets_of lines) w))

claim_keep : (place actor : ℕ) (bytes : List ℕ) (w : World) → Keeps w (act_on actor place 0 GetLine bytes Ask w).world
claim_keep place actor bytes w =
    let asked = asked_in bytes in
    let made : World = record w { requests = w.requests ++ new_claim w.next place actor asked ∷ []; next = w.next + 1 } in
    keeps_else (request_fault bytes) w _ (keeps_else (claim_refusal place actor asked w) w _
    (lines_keep place (offsets_of asked.lines) (claimed w.next asked.consumer) made (λ line h. record { name = h.name; consumer = field_name (stretch REQUEST_CONSUMER NAME_SIZE bytes) })))

told_claim_keep : (answer : Option ℕ) (len : ℕ) (bytes : List ℕ) (o : Option Request) (w : World) → Keeps w (told_claim answer len bytes o w).world
told_claim_keep answer len bytes None w = as_was w
told_claim_keep None len bytes (Some request) w =
    lines_keep request.place (offsets_of request.lines) freed (record w { requests = without_first (has_number request.fd) w.requests }) freed_named
told_claim_keep (Some bits) len bytes (Some request) w =
    let offsets : List ℕ = offsets_of request.lines in
    let kept : World = record w { requests = change_first (has_number request.fd) held w.requests } in
    let lines_held : World = with_place request.place (with_descs offsets settled) kept in
    let set : World = configure_each request.place request.lines request.settings bits lines_held in
    then w lines_held (hold_claim bits request w) (lines_keep request.place offsets settled kept settled_named)
    (then lines_held set (hold_claim bits request w) (configure_from_keep request.place request.settings bits 0 offsets lines_held) (notify_each_keep request.place offsets CHANGED_REQUESTED set))

act_on_keep : (actor place fd : ℕ) (command : Command) (bytes : List ℕ) (part : Part) (w : World) → Keeps w (act_on actor place fd command bytes part w).world
act_on_keep actor place fd ChipInfo bytes part w = as_was w
act_on_keep actor place fd LineInfo bytes part w = keeps_else _ w _ (as_was w)
act_on_keep actor place fd Watch bytes part w = keeps_else _ w _ (as_was w)
act_on_keep actor place fd Unwatch bytes part w = keeps_else _ w _ (as_was w)
act_on_keep actor place fd GetLine bytes part w = claim_keep place actor bytes w
act_on_keep actor place fd SetConfig bytes part w =
    on_request_keep (set_config place fd bytes part) (request_at w.requests fd) w (λ lines settings. set_config_keep place fd bytes part lines settings w)
act_on_keep actor place fd GetValues bytes part w =
    on_request_keep (get_values place bytes part) (request_at w.requests fd) w (λ lines settings. get_values_keep place bytes part lines settings w)
act_on_keep actor place fd SetValues bytes part w =
    on_request_keep (set_values place bytes part) (request_at w.requests fd) w (λ lines settings. set_values_keep place bytes part lines settings w)

checked_keep : (actor place fd len : ℕ) (command : Command) (bytes : List ℕ) (part : Part) (w : World) → Keeps w (checked actor place fd len command bytes part w).world
checked_keep actor place fd len command bytes part w =
    keeps_else (command_refusal place fd len command part w) w _ (act_on_keep actor place fd command (take (size_of command) bytes) part w)

in_part_keep : (actor place fd len : ℕ) (command : Command) (bytes : List ℕ) (part : Part) (w : World) → Keeps w (in_part actor place fd len command bytes part w).world
in_part_keep actor place fd len ChipInfo bytes part w = checked_keep actor place fd len ChipInfo bytes part w
in_part_keep actor place fd len LineInfo bytes part w = checked_keep actor place fd len LineInfo bytes part w
in_part_keep actor place fd len Watch bytes part w = checked_keep actor place fd len Watch bytes part w
in_part_keep actor place fd len Unwatch bytes part w = checked_keep actor place fd len Unwatch bytes part w
in_part_keep actor place fd len GetLine bytes Whole w = checked_keep actor place fd len GetLine bytes Whole w
in_part_keep actor place fd len GetLine bytes Ask w = checked_keep actor place fd len GetLine bytes Ask w
in_part_keep actor place fd len GetLine bytes (Tell answer) w = told_claim_keep answer len bytes (claim_at place (claim_by w.requests actor)) w
in_part_keep actor place fd len SetConfig bytes part w = checked_keep actor place fd len SetConfig bytes part w
in_part_keep actor place fd len GetValues bytes part w = checked_keep actor place fd len GetValues bytes part w
in_part_keep actor place fd len SetValues bytes part w = checked_keep actor place fd len SetValues bytes part w

by_number_keep : (actor place fd len : ℕ) (command : Option Command) (bytes : List ℕ) (part : Part) (w : World) → Keeps w (by_number actor place fd len command bytes part w).world
by_number_keep actor place fd len None bytes part w = as_was w
by_number_keep actor place fd len (Some command) bytes part w = in_part_keep actor place fd len command bytes part w

-- the other calls

open_at_keep : (o : Option ℕ) (w : World) → Keeps w (open_at o w).world
open_at_keep None w = as_was w
open_at_keep (Some place) w = keeps_else _ w _ (as_was w)

found_keep : (lines : List (ℕ × ℕ)) (w : World) → Keeps w (found lines w).world
found_keep [] w = as_was w
found_keep (line ∷ lines) w = as_was w

read_outcome_keep : (r : Result (List ℕ) Errno) (w : World) → Keeps w (read_outcome r w).world
read_outcome_keep (Ok text) w = as_was w
read_outcome_keep (Err errno) w = as_was w

close_request_keep : (o : Option Request) (w : World) → Keeps w (close_request o w)
close_request_keep None w = as_was w
close_request_keep (Some request) w =
    let offsets : List ℕ = offsets_of request.lines in
    let gone : World = record w {
      requests = without_first (has_number request.fd) w.requests;
      timers = with_timers_let_go request.place offsets w.timers;
    } in
    then w (without_request request w) (close_request (Some request) w)
    (with_place_keep request.place (with_lines_freed offsets) gone (λ tables s. Each-change_each IsNamedLine first_desc offsets freed tables.descs freed_named s))
    (notify_each_keep request.place offsets CHANGED_RELEASED (without_request request w))

close_keep : (fd : ℕ) (w : World) → Keeps w (close fd w).world
close_keep fd w =
    let without : World = record w { files = without_first (is_file fd) w.files } in
    keeps_else (when (not (is_open fd w)) BadF) w (done (close_request (request_at w.requests fd) without)) (close_request_keep (request_at w.requests fd) without)

-- all calls

named_unless : (r : Option Errno) (w : World) (out : Outcome) → HasAllNames w → HasAllNames out.world → HasAllNames (refused_or r w out).world
named_unless None w out s h = h
named_unless (Some e) w out s h = s

-- the chips and the tree stay as they are
with_lines : (w : World) (actor : ℕ) (call : Call) → HasAllNames w → board (step w actor call).world ≡ board w → Keeps w (step w actor call).world → HasAllNames (step w actor call).world
with_lines w actor call s e h = record {
  chips = subst (λ b. Each IsNamedChip b.0) (sym e) s.chips;
  lines = h s.lines;
  tree = subst (λ b. Each HasNamedTexts b.2) (sym e) s.tree;
}

live_named : (device : List ℕ) (w : World) → HasAllNames w → HasAllNames (gone_live device w).world
live_named device w s =
    let banks : List TreeRow = banks_of device w.tree in
    let tree : List TreeRow = with_state device (LiveState (length w.chips)) w.tree in
    let tree_named : Each HasNamedTexts tree = set_named device (LiveState (length w.chips)) w.tree s.tree in
    record {
      chips = each_append IsNamedChip w.chips (map chip_of_bank banks) s.chips (chips_named banks (each_filter HasNamedTexts (is_row_in (Device device)) w.tree s.tree));
      lines = each_append HasNamedLines w.places (map (place_of_bank tree) banks) s.lines (places_named tree banks tree_named);
      tree = tree_named;
    }

moved_named : (places : ℕ → Bool) (chips : List Chip) → Each IsNamedChip chips → Each IsNamedChip (change_where places moved_on 0 chips)
moved_named places chips s = each_where IsNamedChip places moved_on 0 chips (λ chip h. h) s

stay : (w : World) (actor : ℕ) (call : Call) → HasAllNames w → FitsCall call → HasAllNames (step w actor call).world
stay w actor (Probe label lines kind) s n = named_unless (when (nat_le PLACES (length w.chips)) NoSpc) w _ s (record {
  chips = each_append IsNamedChip w.chips (new_chip label lines ∷ []) s.chips (n.2, tt);
  lines = each_append HasNamedLines w.places (new_place lines ∷ []) s.lines (new_named lines, tt);
  tree = s.tree;
})
stay w actor (Unplug place false) s n = named_unless (unplug_refusal place w) w (unplug_begun actor place w) s
    (record { chips = moved_named (λ p. p == place) w.chips s.chips; lines = s.lines; tree = s.tree })
stay w actor (Unplug place true) s n = named_unless (when (not (is_unplugging actor w place)) Busy) w (done (end_at (λ p. p == place) w)) s
    (record { chips = moved_named (λ p. p == place) w.chips s.chips; lines = s.lines; tree = s.tree })
stay w actor (MakeDir path) s n = named_unless (mkdir_refusal (node_at path) w.tree) w _ s
    (record { chips = s.chips; lines = s.lines; tree = made_named (node_at path) w.tree (makes_named path) s.tree })
stay w actor (RemoveDir path) s n = named_unless (rmdir_refusal (node_at path) w.tree) w _ s
    (record { chips = s.chips; lines = s.lines; tree = removed_named (node_at path) w.tree s.tree })
stay w actor (Write path value) s n = named_unless (write_refusal (node_at path) value w.tree) w _ s
    (record { chips = s.chips; lines = s.lines; tree = written_named (node_at path) value w.tree n s.tree })
stay w actor (Read path) s n = with_lines w actor (Read path) s (read_outcome-board (read_answer (node_at path) w.tree) w) (read_outcome_keep (read_answer (node_at path) w.tree) w)
stay w actor (Live device) s n = named_unless (live_refusal device (places_left w) w.tree) w (gone_live device w) s (live_named device w s)
stay w actor (Remove device false) s n = named_unless (remove_refusal device w.tree) w (remove_begun actor device w) s (record {
  chips = moved_named (is_up_of device w) w.chips s.chips;
  lines = s.lines;
  tree = set_named device (leaving_state (state_of device w.tree)) w.tree s.tree;
})
stay w actor (Remove device true) s n = named_unless (when (length (removed_places device actor w) == 0) Busy) w (remove_ended actor device w) s (record {
  chips = moved_named (is_removing_of device actor w) w.chips s.chips;
  lines = s.lines;
  tree = set_named device Off w.tree s.tree;
})
stay w actor (Tick mono real) s n = with_lines w actor (Tick mono real) s (tick-board mono real w) (tick_keep mono real w)
stay w actor (Pin place what) s n = with_lines w actor (Pin place what) s (keeps _ w _ refl) (pin_keep place what w)
stay w actor (Irq place offset what) s n = with_lines w actor (Irq place offset what) s (keeps _ w _ refl) (irq_keep place offset what w)
stay w actor (Pull place offset up) s n =
    with_lines w actor (Pull place offset up) s (keeps _ w _ (raw_edge-board place offset _ _)) (keeps_else _ w _ (pull_line_keep place offset up w))
stay w actor (Level place offset pull) s n = with_lines w actor (Level place offset pull) s (keeps _ w _ refl) (keeps_else _ w _ (as_was w))
stay w actor (Interrupt place offset up) s n =
    with_lines w actor (Interrupt place offset up) s (keeps _ w _ (raw_edge-board place offset _ _)) (keeps_else _ w _ (pull_line_keep place offset up w))
stay w actor (OpenChip word) s n = with_lines w actor (OpenChip word) s (open_at-board _ w) (open_at_keep _ w)
stay w actor (Find place name) s n = with_lines w actor (Find place name) s (found-board _ w) (found_keep _ w)
stay w actor (Ioctl place fd cmd len bytes part) s n =
    with_lines w actor (Ioctl place fd cmd len bytes part) s (ioctl-board actor place fd cmd len bytes part w) (by_number_keep actor place fd len (command_of cmd) bytes part w)
stay w actor (ReadEdges place fd len) s n = with_lines w actor (ReadEdges place fd len) s (keeps _ w _ refl) (keeps_else _ w _ (as_was w))
stay w actor (ReadInfo place fd len) s n = with_lines w actor (ReadInfo place fd len) s (keeps _ w _ refl) (keeps_else _ w _ (as_was w))
stay w actor (PollLine place fd) s n = with_lines w actor (PollLine place fd) s (keeps _ w _ refl) (keeps_else _ w _ (as_was w))
stay w actor (PollChip place fd) s n = with_lines w actor (PollChip place fd) s (keeps _ w _ refl) (keeps_else _ w _ (as_was w))
stay w actor (Close fd) s n = with_lines w actor (Close fd) s (close-board fd w) (close_keep fd w)
stay w actor (RefusedCall place poll) s n = s

-- what is shown

line_is_named : (w : World) (place offset : ℕ) → HasAllNames w → IsNamedLine (slice_index_or (place_at w place).descs offset first_desc)
line_is_named w place offset s =
    each_read IsNamedLine (place_at w place).descs offset first_desc (record { name = refl; consumer = refl }) (each_read HasNamedLines w.places place no_place tt s.lines)

shown : (w : World) → HasAllNames w → HasNames w
shown w s = record {
  labels = λ place. each_read IsNamedChip w.chips place no_chip refl s.chips;
  names = λ place offset. (line_is_named w place offset s).name;
  consumers = λ place offset. (line_is_named w place offset s).consumer;
}

opens : HasAllNames opening
opens = record { chips = tt; lines = tt; tree = tt }

pub names_stay : NamesStay
names_stay = record { opens = opens; stay = stay; shown = shown }

module _ {K : Type 0} (stands_for : K → World → Type 0) where
  -- all names stay names after a history of calls in range
  pub names_stay_behind : (w : World) (history : List (Entry K Call Reply Gift)) → HasAllNames w → AnsweredFrom (machine stands_for) w history → HasAllNames (fold_from (machine stands_for) w history)
  names_stay_behind w [] s h = s
  names_stay_behind w (e ∷ history) s h = names_stay_behind (step w e.actor e.call).world history (stay w e.actor e.call s h.1) h.2

  pub legal_worlds_have_names : LegalWorldsHaveNames stands_for
  legal_worlds_have_names = always stands_for (λ history. HasNames (world_of stands_for history))
      (λ history legal. shown (fold_from (machine stands_for) opening history) (names_stay_behind opening history opens legal.0))
