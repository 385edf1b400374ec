-- What is true of each error by which a call is refused: said once for all refusals of the machine.
use Rattle.std.proofs.Common.{◌≡◌, ◌+◌, ◌<◌, ℕ, zero, suc, Bool, true, false, not, List, [], ◌∷◌, Option, Some, None, length, refl, arith, subst, cond}
use Rattle.std.specs.Option.{option_map, option_or}
use Rattle.std.specs.Prelude.{◌==◌, ◌&&◌, is_some, nat_lt, slice_index}
use Rattle.gl_attrs.specs.ConfigFault.{config_fault, line_fault as config_line_fault}
use Rattle.gl_base.specs.Bits.{has_bit}
use Rattle.gl_base.specs.Positions.{first_fault}
use Rattle.gl_base.specs.Refusals.{first_of, when}
use Rattle.gl_base.specs.Rows.{Each}
use Rattle.gl_base.specs.declared.errno.Errno.{Errno}
use Rattle.gl_base.specs.declared.errno.Errno.TheVariants.{Perm, NoEnt, Io, NxIo, BadF, Again, Fault, Busy, Exist, NoDev, Inval, MFile, NoSpc, OpNotSupp}
use Rattle.gl_base.specs.declared.flag.TheConstants.{OUTPUT, INPUT}
use Rattle.gl_base.specs.declared.irq.IrqDo.{IrqDo}
use Rattle.gl_base.specs.declared.irq.IrqDo.TheVariants.{Lock, Unlock, Enable, Disable, Never}
use Rattle.gl_base.specs.declared.lines.Lines.{Lines}
use Rattle.gl_base.specs.declared.phase.Phase.{Phase}
use Rattle.gl_base.specs.declared.phase.Phase.TheVariants.{Absent, Up, Leaving, Gone}
use Rattle.gl_base.specs.declared.pin.PinDo.{PinDo}
use Rattle.gl_base.specs.declared.pin.PinDo.TheVariants.{Range, Hold, Release}
use Rattle.gl_base.specs.declared.settings.Resolved.{Resolved}
use Rattle.gl_base.specs.declared.settings.Settings.{Settings}
use Rattle.gl_desc.specs.Desc.{line_fault}
use Rattle.gl_desc.specs.declared.desc.LineFault.{LineFault}
use Rattle.gl_desc.specs.declared.desc.LineFault.TheVariants.{BadOffset, Busy as BusyLine}
use Rattle.gl_flags.specs.FlagFault.{flag_fault}
use Rattle.gl_irq.specs.Irq.{act_refusal, irq_at}
use Rattle.gl_irq.specs.declared.irq.Irq.{Irq}
use Rattle.gl_irq.specs.declared.irq.IrqLine.{IrqLine}
use Rattle.gl_pins.specs.Pins.{is_held}
use Rattle.gl_simtree.specs.Calls.{live_refusal, mkdir_refusal, remove_refusal, rmdir_refusal, write_refusal, write_to, is_leaving, is_live}
use Rattle.gl_simtree.specs.Rows.{row_at, banks_of, has, state_of}
use Rattle.gl_simtree.specs.declared.node.Directory.{Directory}
use Rattle.gl_simtree.specs.declared.node.File.{File}
use Rattle.gl_simtree.specs.declared.node.File.TheVariants.{Live as LiveFile, ChipName, NumLines, Label, LineName, HogName, Direction}
use Rattle.gl_simtree.specs.declared.node.Node.{Node}
use Rattle.gl_simtree.specs.declared.node.Node.TheVariants.{Directory as DirectoryNode, File as FileNode}
use Rattle.gl_simtree.specs.declared.row.TreeRow.{TreeRow}
use Rattle.gl_uapi.specs.Command.{size_of}
use Rattle.gl_uapi.specs.declared.commands.Command.{Command}
use Rattle.gl_watch.specs.Files.{unwatch_refusal, watch_refusal}
use Rattle.gl_watch.specs.declared.file.ChipFile.{ChipFile}
use Rattle.gl_model.specs.declared.call.Part.{Part}
use Rattle.gl_model.specs.declared.place.Place.{Place}
use Rattle.gl_model.specs.AskedLines.{AskedLines, config_of, header_fault, num_lines, request_fault}
use Rattle.gl_model.specs.Chips.{phase_at, place_refusal}
use Rattle.gl_model.specs.Claiming.{claim_number, claim_refusal, errno_of, line_refusal}
use Rattle.gl_model.specs.Clock.{clock_refusal}
use Rattle.gl_model.specs.Commands.{info_refusal}
use Rattle.gl_model.specs.Configuring.{config_refusal, directed_fault, interrupt_fault, is_directed, settings_of, needs_interrupt}
use Rattle.gl_model.specs.OpenFiles.{chip_file_refusal, command_refusal, has_part, is_for_chips, kind_refusal, number_refusal, request_file_refusal, unknown_refusal}
use Rattle.gl_model.specs.Pins.{pin_refusal}
use Rattle.gl_model.specs.Places.{place_at}
use Rattle.gl_model.specs.Pulls.{level_refusal}
use Rattle.gl_model.specs.Reading.{read_refusal}
use Rattle.gl_model.specs.Removal.{is_outside_tree, phase_refusal, unplug_refusal}
use Rattle.gl_model.specs.Values.{output_fault, set_values_refusal, levels_of}
use Rattle.gl_model.specs.World.{World}
use Rattle.gl_attrs.specs.Setting.{resolved_for, attribute_for, flags_for, num_attrs}
use Rattle.gl_simtree.specs.Forms.{is_device}
use Rattle.gl_simtree.specs.declared.node.Directory.TheVariants.{Device}
use Rattle.gl_uapi.specs.Fields.{is_zero_at}
use Rattle.gl_model.specs.Bits.{has_bit_below}
use Rattle.gl_model.specs.Replies.{HasLockedOutput}
use Rattle.gl_model.proofs.Phases.{both}
use Rattle.gl_uapi.specs.declared.layout.TheConstants.{ATTRIBUTES_MAX, ATTRIBUTE_DEBOUNCE, CONFIG_PADDING, CONFIG_PADDING_SIZE}

module _ (P : Errno → Type 0) where
  -- it is true of the error, where there is one
  abbrev pub Only : Option Errno → Type 0
  Only None = Unit {0}
  Only (Some e) = P e

  pub only_when : (b : Bool) (e : Errno) → (b ≡ true → P e) → Only (when b e)
  only_when true e h = h refl
  only_when false e h = tt

  pub only_or : (a b : Option Errno) → Only a → Only b → Only (option_or a b)
  only_or None b h k = k
  only_or (Some e) b h k = h

  pub only_of : (faults : List (Option Errno)) → Each Only faults → Only (first_of faults)
  only_of [] each = tt
  only_of (fault ∷ faults) each = only_or fault (first_of faults) each.0 (only_of faults each.1)

  pub only_fault : (f : ℕ → Option Errno) (i n : ℕ) → ((k : ℕ) → k < n → Only (f (i + k))) → Only (first_fault f i n)
  only_fault f i zero h = tt
  only_fault f i (suc n) h =
      only_or (f i) (first_fault f (i + 1) n)
      (let z : i + 0 ≡ i = omega arith in subst (λ k. Only (f k)) z (h 0 (omega arith)))
      (only_fault f (i + 1) n (λ k lt. let z : i + (suc k) ≡ (i + 1) + k = omega arith in subst (λ k. Only (f k)) z (h (suc k) (omega arith))))

  -- it is true of all errors but EIO, ENODEV, ENOMEM and that the history is full
  pub record OfPlain : Type 0 where
    pub perm : P Perm
    pub no_ent : P NoEnt
    pub nx_io : P NxIo
    pub bad_f : P BadF
    pub again : P Again
    pub fault : P Fault
    pub busy : P Busy
    pub exist : P Exist
    pub inval : P Inval
    pub m_file : P MFile
    pub no_spc : P NoSpc
    pub op_not_supp : P OpNotSupp

  module _ (p : OfPlain) where
    -- chips, pins and interrupts

    pub at_place : (place : ℕ) (w : World) → Only (place_refusal place w)
    at_place place w = grind (arith, p.no_ent)

    pub of_pins : (lines : ℕ) (place : Place) (what : PinDo) → Only (pin_refusal lines place what)
    of_pins lines place (Range offset pin count) = grind (arith, p.inval, p.no_spc)
    of_pins lines place (Hold pin) = grind (arith, p.inval, p.busy)
    of_pins lines place (Release pin) = grind (arith, p.inval)

    pub of_interrupts : P Io → (irqs : List Irq) (offset : ℕ) (what : IrqDo) (line : IrqLine) → Only (act_refusal irqs offset what line)
    of_interrupts io irqs offset Lock line = grind (arith, p.inval, p.busy, p.nx_io, io)
    of_interrupts io irqs offset Unlock line = grind (arith, p.inval)
    of_interrupts io irqs offset Enable line = grind (arith, p.inval, p.busy, io)
    of_interrupts io irqs offset Disable line = grind (arith, p.inval)
    of_interrupts io irqs offset Never line = grind (arith, p.inval, p.busy)

    pub of_levels : (place offset : ℕ) (b : Bool) (w : World) → Only (level_refusal place offset b w)
    of_levels place offset b w = grind (arith, p.no_ent, p.inval)

    pub of_phase : P NoDev → (phase : Phase) → Only (phase_refusal phase)
    of_phase gone Absent = tt
    of_phase gone Up = tt
    of_phase gone Leaving = p.busy
    of_phase gone Gone = gone

    pub of_unplug : P NoDev → (place : ℕ) (w : World) → Only (unplug_refusal place w)
    of_unplug gone place w = only_of (place_refusal place w ∷ when (not (is_outside_tree w place)) Perm ∷ phase_refusal (phase_at w place) ∷ [])
        (at_place place w, (only_when (not (is_outside_tree w place)) Perm (λ _. p.perm), (of_phase gone (phase_at w place), tt)))

    pub of_clock : (mono real : ℕ) (w : World) → Only (clock_refusal mono real w)
    of_clock mono real w = grind (arith, p.inval)

    -- the tree

    pub of_mkdir : (node : Option Node) (rows : List TreeRow) → Only (mkdir_refusal node rows)
    of_mkdir None rows = p.inval
    of_mkdir (Some (FileNode directory file)) rows = p.inval
    of_mkdir (Some (DirectoryNode directory)) rows = grind (arith, p.no_ent, p.busy, p.exist, p.no_spc)

    pub of_rmdir : (node : Option Node) (rows : List TreeRow) → Only (rmdir_refusal node rows)
    of_rmdir None rows = p.inval
    of_rmdir (Some (FileNode directory file)) rows = p.inval
    of_rmdir (Some (DirectoryNode directory)) rows = grind (arith, p.no_ent, p.busy)

    of_write_to : (directory : Directory) (file : File) (value : List ℕ) (row : Option TreeRow) (rows : List TreeRow) → Only (write_to directory file value row rows)
    of_write_to directory file value None rows = p.no_ent
    of_write_to directory file value (Some row) rows = grind (arith, p.perm, p.busy, p.inval)

    pub of_write : (node : Option Node) (value : List ℕ) (rows : List TreeRow) → Only (write_refusal node value rows)
    of_write None value rows = p.inval
    of_write (Some (DirectoryNode directory)) value rows = p.inval
    of_write (Some (FileNode directory LiveFile)) value rows = p.inval
    of_write (Some (FileNode directory ChipName)) value rows = of_write_to directory ChipName value (row_at directory rows) rows
    of_write (Some (FileNode directory NumLines)) value rows = of_write_to directory NumLines value (row_at directory rows) rows
    of_write (Some (FileNode directory Label)) value rows = of_write_to directory Label value (row_at directory rows) rows
    of_write (Some (FileNode directory LineName)) value rows = of_write_to directory LineName value (row_at directory rows) rows
    of_write (Some (FileNode directory HogName)) value rows = of_write_to directory HogName value (row_at directory rows) rows
    of_write (Some (FileNode directory Direction)) value rows = of_write_to directory Direction value (row_at directory rows) rows

    pub of_live : (device : List ℕ) (left : ℕ) (rows : List TreeRow) → Only (live_refusal device left rows)
    of_live device left rows =
        only_of (when (not (is_device device)) Inval ∷ when (not (has (Device device) rows)) NoEnt ∷ when (is_leaving (state_of device rows)) Busy ∷ when (is_live (state_of device rows)) Perm
        ∷ when (length (banks_of device rows) == 0) Inval ∷ when (nat_lt left (length (banks_of device rows))) NoSpc ∷ []) (
          only_when _ Inval (λ _. p.inval),
          (
            only_when _ NoEnt (λ _. p.no_ent),
            (
              only_when _ Busy (λ _. p.busy),
              (
                only_when _ Perm (λ _. p.perm),
                (only_when _ Inval (λ _. p.inval), (only_when _ NoSpc (λ _. p.no_spc), tt)),
              ),
            ),
          ),
        )

    pub of_remove : (device : List ℕ) (rows : List TreeRow) → Only (remove_refusal device rows)
    of_remove device rows =
        only_of (when (not (is_device device)) Inval ∷ when (not (has (Device device) rows)) NoEnt ∷ when (is_leaving (state_of device rows)) Busy ∷ when (not (is_live (state_of device rows))) Perm ∷ [])
        (only_when _ Inval (λ _. p.inval), (only_when _ NoEnt (λ _. p.no_ent), (only_when _ Busy (λ _. p.busy), (only_when _ Perm (λ _. p.perm), tt))))

    -- open files

    pub of_number : (w : World) → Only (number_refusal w)
    of_number w = grind (arith, p.m_file)

    pub of_chip_file : (place fd : ℕ) (w : World) → Only (chip_file_refusal place fd w)
    of_chip_file place fd w = grind (arith, p.bad_f, p.inval)

    pub of_request_file : (place fd : ℕ) (w : World) → Only (request_file_refusal place fd w)
    of_request_file place fd w = grind (arith, p.bad_f, p.inval)

    of_kind : (place fd : ℕ) (b : Bool) (w : World) → Only (kind_refusal place fd b w)
    of_kind place fd true w = of_chip_file place fd w
    of_kind place fd false w = of_request_file place fd w

    pub of_command : (place fd len : ℕ) (command : Command) (part : Part) (w : World) → Only (command_refusal place fd len command part w)
    of_command place fd len command part w =
        only_of (kind_refusal place fd (is_for_chips command) w ∷ when (nat_lt len (size_of command)) Fault ∷ when (not (has_part command part)) Inval ∷ [])
        (of_kind place fd (is_for_chips command) w, (only_when (nat_lt len (size_of command)) Fault (λ _. p.fault), (only_when (not (has_part command part)) Inval (λ _. p.inval), tt)))

    pub of_unknown : (place fd : ℕ) (w : World) → P (unknown_refusal place fd w)
    of_unknown place fd w = grind (arith, p.inval, p.bad_f)

    pub of_reads : (size len count : ℕ) → Only (read_refusal size len count)
    of_reads size len count = grind (arith, p.inval, p.again)

    -- commands

    pub of_info : (place : ℕ) (bytes : List ℕ) (w : World) → Only (info_refusal place bytes w)
    of_info place bytes w = grind (arith, p.inval)

    pub of_watch : (offset : ℕ) (file : Option ChipFile) → Only (watch_refusal offset file)
    of_watch offset None = tt
    of_watch offset (Some file) = grind (arith, p.busy)

    pub of_unwatch : (offset : ℕ) (file : Option ChipFile) → Only (unwatch_refusal offset file)
    of_unwatch offset None = tt
    of_unwatch offset (Some file) = grind (arith, p.busy)

    of_flags : (bits : ℕ) → Only (flag_fault bits)
    of_flags bits = grind (arith, p.inval, p.op_not_supp)

    of_config_line : (config : List ℕ) (i : ℕ) → Only (config_line_fault config i)
    of_config_line config i =
        let debounced : Bool = is_some (attribute_for ATTRIBUTE_DEBOUNCE config i) && not (has_bit (flags_for config i) INPUT) in
        only_of (flag_fault (flags_for config i) ∷ when debounced Inval ∷ []) (of_flags (flags_for config i), (only_when debounced Inval (λ _. p.inval), tt))

    pub of_config : (config : List ℕ) (n : ℕ) → Only (config_fault config n)
    of_config config n =
        let many : Bool = nat_lt ATTRIBUTES_MAX (num_attrs config) in
        let padding : Bool = not (is_zero_at CONFIG_PADDING CONFIG_PADDING_SIZE config) in
        only_of (when many Inval ∷ when padding Inval ∷ first_fault (config_line_fault config) 0 n ∷ [])
        (only_when many Inval (λ _. p.inval), (only_when padding Inval (λ _. p.inval), (only_fault (config_line_fault config) 0 n (λ k lt. of_config_line config (0 + k)), tt)))

    of_header : (bytes : List ℕ) → Only (header_fault bytes)
    of_header bytes = grind (arith, p.inval)

    pub of_request : (bytes : List ℕ) → Only (request_fault bytes)
    of_request bytes = only_or (header_fault bytes) (config_fault (config_of bytes) (num_lines bytes)) (of_header bytes) (of_config (config_of bytes) (num_lines bytes))

    of_line_fault : (fault : Option LineFault) → Only (option_map errno_of fault)
    of_line_fault None = tt
    of_line_fault (Some BadOffset) = p.inval
    of_line_fault (Some BusyLine) = p.busy

    -- EIO of a line is that of an output which is locked
    pub of_settings : (settings : Settings) (irq : Irq) → (has_bit settings.flags OUTPUT ≡ true → (irq.locked && irq.enabled) ≡ true → P Io) → Only (interrupt_fault settings irq)
    of_settings settings irq io =
        let wants : Bool = needs_interrupt settings && not irq.has in
        let locked : Bool = has_bit settings.flags OUTPUT && (irq.locked && irq.enabled) in
        only_of (when wants NxIo ∷ when locked Io ∷ [])
        (only_when wants NxIo (λ _. p.nx_io), (only_when locked Io (λ t. let h = both (has_bit settings.flags OUTPUT) (irq.locked && irq.enabled) t in io h.0 h.1), tt))

    of_line : (place : Place) (asked : AskedLines) (i : ℕ) → i < asked.lines.count → (HasLockedOutput place asked.lines asked.settings → P Io) → Only (line_refusal place asked i)
    of_line place asked i within io =
        let offset : ℕ = slice_index asked.lines.offsets i in
        only_of (option_map errno_of (line_fault place.descs asked.lines.offsets i) ∷ when (is_held place.pins offset) Busy ∷ interrupt_fault (settings_of asked.settings i) (irq_at place.irqs offset) ∷ []) (
          of_line_fault (line_fault place.descs asked.lines.offsets i),
          (
            only_when (is_held place.pins offset) Busy (λ _. p.busy),
            (of_settings (settings_of asked.settings i) (irq_at place.irqs offset) (λ output locked. io (record { position = i; within = within; is_output = output; is_locked = locked })), tt),
          ),
        )

    pub of_claim : (place actor : ℕ) (asked : AskedLines) (w : World) → (HasLockedOutput (place_at w place) asked.lines asked.settings → P Io) → Only (claim_refusal place actor asked w)
    of_claim place actor asked w io =
        let busy : Bool = is_some (claim_number w.requests actor) in
        only_of (number_refusal w ∷ when busy Busy ∷ first_fault (line_refusal (place_at w place) asked) 0 asked.lines.count ∷ []) (
          of_number w,
          (
            only_when busy Busy (λ _. p.busy),
            (only_fault (line_refusal (place_at w place) asked) 0 asked.lines.count (λ k lt. of_line (place_at w place) asked (0 + k) (omega (arith, lt)) io), tt),
          ),
        )

    of_directed : (place : Place) (lines : Lines) (settings : Resolved) (i : ℕ) → i < lines.count → (HasLockedOutput place lines settings → P Io) → Only (directed_fault place lines settings i)
    of_directed place lines settings i within io = elim (is_directed settings i) as (λ b. Only (cond b (interrupt_fault (settings_of settings i) (irq_at place.irqs (slice_index lines.offsets i))) None)) [
      | true ↦ of_settings (settings_of settings i) (irq_at place.irqs (slice_index lines.offsets i)) (λ output locked. io (record { position = i; within = within; is_output = output; is_locked = locked }))
      | false ↦ tt
    ]

    pub of_new_config : (place : ℕ) (lines : Lines) (bytes : List ℕ) (w : World) → (HasLockedOutput (place_at w place) lines (resolved_for bytes lines.count) → P Io) → Only (config_refusal place lines bytes w)
    of_new_config place lines bytes w io =
        let settings : Resolved = resolved_for bytes lines.count in
        only_of (config_fault bytes lines.count ∷ first_fault (directed_fault (place_at w place) lines settings) 0 lines.count ∷ [])
        (of_config bytes lines.count, (only_fault (directed_fault (place_at w place) lines settings) 0 lines.count (λ k lt. of_directed (place_at w place) lines settings (0 + k) (omega (arith, lt)) io), tt))

    pub of_mask : (lines : Lines) (mask : ℕ) → Only (when (not (has_bit_below lines.count mask)) Inval)
    of_mask lines mask = only_when (not (has_bit_below lines.count mask)) Inval (λ _. p.inval)

    pub of_values : (place : ℕ) (lines : Lines) (mask : ℕ) (w : World) → Only (set_values_refusal place lines mask w)
    of_values place lines mask w =
        only_of (first_fault (output_fault place lines mask w) 0 lines.count ∷ when (not (has_bit_below lines.count mask)) Inval ∷ [])
        (only_fault (output_fault place lines mask w) 0 lines.count (λ k lt. only_when (has_bit mask (0 + k) && not (levels_of place lines w (0 + k)).output) Perm (λ _. p.perm)), (of_mask lines mask, tt))
