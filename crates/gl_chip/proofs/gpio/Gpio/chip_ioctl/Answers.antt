use Rattle.std.proofs.Common.{◌≡◌, ℕ, List, [], ◌++◌, length, drop, true, Option, sym, ap, refl, subst, ◌∙◌}
use Rattle.gl_base.specs.declared.errno.Errno.TheVariants.{NoMemory}
use Rattle.gl_model.specs.declared.device_call.CommandIn.{CommandIn}
use Rattle.gl_model.specs.declared.device_call.DeviceCall.TheVariants.{Commanding}
use Rattle.gl_asking.specs.declared.kinds.FileKind.TheVariants.{Chip}
use Rattle.gl_asking.specs.Driving.{op_for}
use Rattle.gl_asking.specs.Handed.{command_in}
use Rattle.gl_chip.specs.DriverCommands.{HasCommanded, IsOp, TakesMemory, request_in, requested_of}
use Rattle.gl_chip.specs.Files.{LineFile}
use Rattle.gl_chip.specs.Orders.{lines_on}
use Rattle.gl_chip.proofs.Answering.{answers_in_order, requests_in_order}
use Rattle.gl_chip.proofs.CommandResults.{command_is_full, command_is_made, failed, full_not_let_in, full_not_wanted, wanted_not_let_in}
use Rattle.gl_chip.proofs.HandedBytes.{handed_back}
use Rattle.gl_chip.proofs.OrderedCalls.{fits_commanding}
use Rattle.gl_chip.proofs.RequestedFiles.{file_where_requested}
use Rattle.gl_chip.proofs.RequestedLines.{gets_line, number_below}
use Rattle.gl_chip.proofs.SameActors.{same_actor}
use Rattle.gl_chip.proofs.WholeCalls.{called_not_memory, errno_is_told}
use Rattle.gl_chip.proofs.gpio.Gpio.chip_ioctl.Goals as goal

pub carry-requires-clause-fits : goal.carry-requires-clause-fits
carry-requires-clause-fits g c κs within = let told = c.command-command.ensures.told in
    fits_commanding c.command-command.result Chip c.args.buf.now c.command-command.ensures.place (handed_back c.command-command.result c.args.fd.now.place c.args.fd.now.fd true c.args.cmd c.args.buf.now told) (ap (λ (x : CommandIn). x.of_chip) told, tt)

pub carry-requires-clause-brings : goal.carry-requires-clause-brings
carry-requires-clause-brings g c κs within = c.in-Ok.ensures.ok

pub requested-requires-clause-number : goal.requested-requires-clause-number
requested-requires-clause-number g c = number_below c.in-Ok-carry.answered.reply (IsOp (op_for (lines_on Chip c.command-command.result) c.command-command.result)) c.in-Ok-carry.ensures.form

pub returns-in-Ok-carry-clause-memory : goal.returns-in-Ok-carry-clause-memory
returns-in-Ok-carry-clause-memory g c = let k = subst (λ (x : CommandIn). ((bytes : List ℕ) × (c.carry.new.out ≡ bytes ++ drop (length bytes) c.args.buf.now)
    × HasCommanded g.D.Port.Port.told g.D.Port.Port.faults g.D.Port.Port.maps g.D.Port.Port.maps_left g.D.Driver.OwnEntries g.D.Driver.Follows g.D.Driver.ENTRIES (op_for (lines_on Chip x) x) c.args.actor.now x c.in-Ok-carry.answered.reply bytes c.carry.new.actor)
    × (c.requested.result ≡ requested_of x.place (lines_on Chip x) c.in-Ok-carry.answered.reply))
    c.command-command.ensures.told (c.in-Ok-carry.ensures.done, c.requested.ensures (lines_on Chip c.command-command.result) c.in-Ok-carry.ensures.lines) in
    let command : CommandIn = command_in c.args.fd.now.place c.args.fd.now.fd true c.args.cmd c.args.buf.now in
    λ e. absurd (called_not_memory g.D.Driver.ENTRIES c.args.actor.now.pass.view c.carry.new.actor.pass.view (Commanding command) c.in-Ok-carry.answered.reply k.0.0 k.0.2.called
    (errno_is_told (request_in command.place (lines_on Chip command)) NoMemory c.in-Ok-carry.answered.reply (sym k.1 ∙ e)))

pub returns-in-Ok-carry-clause-called : goal.returns-in-Ok-carry-clause-called
returns-in-Ok-carry-clause-called g c = let k = subst (λ (x : CommandIn). ((bytes : List ℕ) × (c.carry.new.out ≡ bytes ++ drop (length bytes) c.args.buf.now)
    × HasCommanded g.D.Port.Port.told g.D.Port.Port.faults g.D.Port.Port.maps g.D.Port.Port.maps_left g.D.Driver.OwnEntries g.D.Driver.Follows g.D.Driver.ENTRIES (op_for (lines_on Chip x) x) c.args.actor.now x c.in-Ok-carry.answered.reply bytes c.carry.new.actor)
    × (c.requested.result ≡ requested_of x.place (lines_on Chip x) c.in-Ok-carry.answered.reply))
    c.command-command.ensures.told (c.in-Ok-carry.ensures.done, c.requested.ensures (lines_on Chip c.command-command.result) c.in-Ok-carry.ensures.lines) in
    let command : CommandIn = command_in c.args.fd.now.place c.args.fd.now.fd true c.args.cmd c.args.buf.now in λ _. (
      k.0.0,
      k.0.1,
      command_is_made g.D.Port.Port.told g.D.Port.Port.faults g.D.Port.Port.maps g.D.Port.Port.maps_left g.D.Driver.OwnEntries g.D.Driver.Follows g.D.Driver.ENTRIES {X = Option LineFile} (request_in command.place (lines_on Chip command)) c.requested.result (op_for (lines_on Chip command) command) c.args.actor.now c.carry.new.actor command k.0.0 c.in-Ok-carry.answered.reply k.1 k.0.2,
    )

pub returns-in-Ok-carry-clause-file : goal.returns-in-Ok-carry-clause-file
returns-in-Ok-carry-clause-file g c = let k = subst (λ (x : CommandIn). ((bytes : List ℕ) × (c.carry.new.out ≡ bytes ++ drop (length bytes) c.args.buf.now)
    × HasCommanded g.D.Port.Port.told g.D.Port.Port.faults g.D.Port.Port.maps g.D.Port.Port.maps_left g.D.Driver.OwnEntries g.D.Driver.Follows g.D.Driver.ENTRIES (op_for (lines_on Chip x) x) c.args.actor.now x c.in-Ok-carry.answered.reply bytes c.carry.new.actor)
    × (c.requested.result ≡ requested_of x.place (lines_on Chip x) c.in-Ok-carry.answered.reply))
    c.command-command.ensures.told (c.in-Ok-carry.ensures.done, c.requested.ensures (lines_on Chip c.command-command.result) c.in-Ok-carry.ensures.lines) in
    let command : CommandIn = command_in c.args.fd.now.place c.args.fd.now.fd true c.args.cmd c.args.buf.now in
    file_where_requested g.D.Driver.ENTRIES c.args.actor.now.pass.view c.carry.new.actor.pass.view command c.in-Ok-carry.answered.reply k.0.0 command.place (lines_on Chip command) c.requested.result k.1 k.0.2.called

pub returns-in-Ok-carry-clause-told : goal.returns-in-Ok-carry-clause-told
returns-in-Ok-carry-clause-told g c = let k = subst (λ (x : CommandIn). ((bytes : List ℕ) × (c.carry.new.out ≡ bytes ++ drop (length bytes) c.args.buf.now)
    × HasCommanded g.D.Port.Port.told g.D.Port.Port.faults g.D.Port.Port.maps g.D.Port.Port.maps_left g.D.Driver.OwnEntries g.D.Driver.Follows g.D.Driver.ENTRIES (op_for (lines_on Chip x) x) c.args.actor.now x c.in-Ok-carry.answered.reply bytes c.carry.new.actor)
    × (c.requested.result ≡ requested_of x.place (lines_on Chip x) c.in-Ok-carry.answered.reply))
    c.command-command.ensures.told (c.in-Ok-carry.ensures.done, c.requested.ensures (lines_on Chip c.command-command.result) c.in-Ok-carry.ensures.lines) in
    let command : CommandIn = command_in c.args.fd.now.place c.args.fd.now.fd true c.args.cmd c.args.buf.now in
    λ asks let_in. answers_in_order g.D.Port.Port.told g.D.Port.Port.faults g.D.Port.Port.maps g.D.Port.Port.maps_left g.D.Driver.OwnEntries g.D.Driver.Follows g.D.Driver.ENTRIES {X = Option LineFile} (request_in command.place (lines_on Chip command)) c.requested.result (op_for (lines_on Chip command) command) c.args.actor.now c.carry.new.actor command c.in-Ok-carry.answered.reply k.0.0 k.0.2 k.1 asks let_in.2
    (λ _. (gets_line command refl asks, c.number-after.ensures.idle, c.number-after.ensures.own))

pub returns-in-Ok-carry-clause-first_faulty : goal.returns-in-Ok-carry-clause-first_faulty
returns-in-Ok-carry-clause-first_faulty g c = let k = subst (λ (x : CommandIn). ((bytes : List ℕ) × (c.carry.new.out ≡ bytes ++ drop (length bytes) c.args.buf.now)
    × HasCommanded g.D.Port.Port.told g.D.Port.Port.faults g.D.Port.Port.maps g.D.Port.Port.maps_left g.D.Driver.OwnEntries g.D.Driver.Follows g.D.Driver.ENTRIES (op_for (lines_on Chip x) x) c.args.actor.now x c.in-Ok-carry.answered.reply bytes c.carry.new.actor)
    × (c.requested.result ≡ requested_of x.place (lines_on Chip x) c.in-Ok-carry.answered.reply))
    c.command-command.ensures.told (c.in-Ok-carry.ensures.done, c.requested.ensures (lines_on Chip c.command-command.result) c.in-Ok-carry.ensures.lines) in
    let command : CommandIn = command_in c.args.fd.now.place c.args.fd.now.fd true c.args.cmd c.args.buf.now in
    λ asks let_in. requests_in_order g.D.Port.Port.told g.D.Port.Port.faults g.D.Port.Port.maps g.D.Port.Port.maps_left g.D.Driver.OwnEntries g.D.Driver.Follows g.D.Driver.ENTRIES {X = Option LineFile} (request_in command.place (lines_on Chip command)) c.requested.result (op_for (lines_on Chip command) command) c.args.actor.now c.carry.new.actor command c.in-Ok-carry.answered.reply k.0.0 k.0.2 k.1 asks let_in.2
    (gets_line command refl asks) refl c.number-before.ensures.idle c.number-after.ensures.idle c.number-after.ensures.own

pub returns-clause-memory : goal.returns-clause-memory
returns-clause-memory g c = λ is. absurd (full_not_wanted {X = Option LineFile} c.in-Err-carry.errno c.in-Err-carry.ensures.full.0 is)

pub returns-clause-called : goal.returns-clause-called
returns-clause-called g c = λ _. let full = c.in-Err-carry.ensures.full in
    let command : CommandIn = command_in c.args.fd.now.place c.args.fd.now.fd true c.args.cmd c.args.buf.now in (
      [],
      full.1,
      command_is_full g.D.Port.Port.told g.D.Port.Port.faults g.D.Port.Port.maps g.D.Port.Port.maps_left g.D.Driver.OwnEntries g.D.Driver.Follows g.D.Driver.ENTRIES {X = Option LineFile} (request_in command.place (lines_on Chip command)) c.in-Err-carry.errno (op_for (lines_on Chip command) command) c.args.actor.now c.carry.new.actor command full.0 full.3 full.2,
    )

pub returns-clause-told : goal.returns-clause-told
returns-clause-told g c = λ _ let_in. absurd (full_not_let_in {X = Option LineFile} c.in-Err-carry.errno c.in-Err-carry.ensures.full.0 let_in)

pub returns-clause-first_faulty : goal.returns-clause-first_faulty
returns-clause-first_faulty g c = λ _ let_in. absurd (full_not_let_in {X = Option LineFile} c.in-Err-carry.errno c.in-Err-carry.ensures.full.0 let_in)

pub returns-in-Err-clause-same : goal.returns-in-Err-clause-same
returns-in-Err-clause-same g c = same_actor c.args.actor.now.pass.view

pub returns-in-Err-clause-memory : goal.returns-in-Err-clause-memory
returns-in-Err-clause-memory g c = λ _. (subst (λ (x : CommandIn). TakesMemory x) c.command-command.ensures.told c.in-Err.ensures.memory.1, refl, refl)

pub returns-in-Err-clause-called : goal.returns-in-Err-clause-called
returns-in-Err-clause-called g c = λ other. absurd (other (ap (λ e. failed (Option LineFile) e) c.in-Err.ensures.memory.0))

pub returns-in-Err-clause-told : goal.returns-in-Err-clause-told
returns-in-Err-clause-told g c = λ _ let_in. absurd (wanted_not_let_in {X = Option LineFile} c.in-Err.errno c.in-Err.ensures.memory.0 let_in)

pub returns-in-Err-clause-first_faulty : goal.returns-in-Err-clause-first_faulty
returns-in-Err-clause-first_faulty g c = λ _ let_in. absurd (wanted_not_let_in {X = Option LineFile} c.in-Err.errno c.in-Err.ensures.memory.0 let_in)
