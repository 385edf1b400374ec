use Rattle.std.proofs.Common.{◌≡◌, ℕ, List, [], ◌++◌, length, drop, false, Err, sym, ap, refl, subst, ◌∙◌}
use Rattle.std.proofs.lemmas.Bool.{true≢false}
use Rattle.gl_base.specs.declared.lines.Lines.{Lines}
use Rattle.gl_uapi.specs.Command.{command_of}
use Rattle.gl_model.specs.declared.device_call.CommandIn.{CommandIn}
use Rattle.gl_asking.specs.declared.kinds.FileKind.TheVariants.{Request}
use Rattle.gl_chip.specs.DriverCommands.{HasCommanded}
use Rattle.gl_asking.specs.Driving.{op_for}
use Rattle.gl_asking.specs.Handed.{command_in}
use Rattle.gl_chip.proofs.Answering.{answers_in_order, configures_in_order, no_get_line}
use Rattle.gl_chip.proofs.HandedBytes.{handed_back}
use Rattle.gl_chip.proofs.CommandResults.{command_is_full, command_is_made}
use Rattle.gl_chip.proofs.OrderedCalls.{fits_commanding, request_brings}
use Rattle.gl_chip.proofs.gpio.Gpio.line_ioctl.Goals as goal

pub carry-requires-clause-fits : goal.carry-requires-clause-fits
carry-requires-clause-fits g c κs within = let told = c.command-command.ensures.told in
    fits_commanding c.command-command.result (Request c.lines.result) c.args.buf.now c.command-command.ensures.place (handed_back c.command-command.result c.args.fd.now.place c.args.fd.now.fd false c.args.cmd c.args.buf.now told)
    (ap (λ (x : CommandIn). x.of_chip) told, c.lines.ensures.count)

pub carry-requires-clause-brings : goal.carry-requires-clause-brings
carry-requires-clause-brings g c κs within = request_brings c.command-command.result c.nothing.result (ap (λ (x : CommandIn). x.of_chip) c.command-command.ensures.told)

pub returns-in-Ok-clause-called : goal.returns-in-Ok-clause-called
returns-in-Ok-clause-called g c = let h = subst (λ (p : CommandIn × Lines). (bytes : List ℕ) × (c.carry.new.out ≡ bytes ++ drop (length bytes) c.args.buf.now)
    × HasCommanded g.D.Port.Port.told g.D.Port.Port.faults g.D.Port.Port.maps g.D.Port.Port.maps_left g.D.Driver.OwnEntries g.D.Driver.Follows g.D.Driver.ENTRIES (op_for p.1 p.0) c.args.actor.now p.0 c.in-Ok.answered.reply bytes c.carry.new.actor)
    (λ i. (c.command-command.ensures.told i, c.lines.ensures.lines i)) c.in-Ok.ensures.done in
    let command : CommandIn = command_in c.args.fd.now.place c.args.fd.now.fd false c.args.cmd c.args.buf.now in (
      h.0,
      h.1,
      command_is_made g.D.Port.Port.told g.D.Port.Port.faults g.D.Port.Port.maps g.D.Port.Port.maps_left g.D.Driver.OwnEntries g.D.Driver.Follows g.D.Driver.ENTRIES {X = Unit {0}} (λ _. tt) c.done.result (op_for c.args.fd.now.lines command) c.args.actor.now c.carry.new.actor command h.0 c.in-Ok.answered.reply c.done.ensures h.2,
    )

pub returns-clause-called : goal.returns-clause-called
returns-clause-called g c = let full = c.in-Err.ensures.full in
    let command : CommandIn = command_in c.args.fd.now.place c.args.fd.now.fd false c.args.cmd c.args.buf.now in (
      [],
      full.1,
      command_is_full g.D.Port.Port.told g.D.Port.Port.faults g.D.Port.Port.maps g.D.Port.Port.maps_left g.D.Driver.OwnEntries g.D.Driver.Follows g.D.Driver.ENTRIES {X = Unit {0}} (λ _. tt) c.in-Err.errno (op_for c.args.fd.now.lines command) c.args.actor.now c.carry.new.actor command full.0 full.3 full.2,
    )

pub returns-in-Ok-clause-told : goal.returns-in-Ok-clause-told
returns-in-Ok-clause-told g c = let h = subst (λ (p : CommandIn × Lines). (bytes : List ℕ) × (c.carry.new.out ≡ bytes ++ drop (length bytes) c.args.buf.now)
    × HasCommanded g.D.Port.Port.told g.D.Port.Port.faults g.D.Port.Port.maps g.D.Port.Port.maps_left g.D.Driver.OwnEntries g.D.Driver.Follows g.D.Driver.ENTRIES (op_for p.1 p.0) c.args.actor.now p.0 c.in-Ok.answered.reply bytes c.carry.new.actor)
    (λ i. (c.command-command.ensures.told i, c.lines.ensures.lines i)) c.in-Ok.ensures.done in
    let command : CommandIn = command_in c.args.fd.now.place c.args.fd.now.fd false c.args.cmd c.args.buf.now in
    λ asks let_in. answers_in_order g.D.Port.Port.told g.D.Port.Port.faults g.D.Port.Port.maps g.D.Port.Port.maps_left g.D.Driver.OwnEntries g.D.Driver.Follows g.D.Driver.ENTRIES {X = Unit {0}} (λ _. tt) c.done.result (op_for c.args.fd.now.lines command) c.args.actor.now c.carry.new.actor command c.in-Ok.answered.reply h.0 h.2 c.done.ensures asks let_in.2
    (λ of_get_line. absurd (true≢false (sym of_get_line ∙ no_get_line (length c.args.buf.now) (command_of c.args.cmd) asks)))

pub returns-in-Ok-clause-first_faulty : goal.returns-in-Ok-clause-first_faulty
returns-in-Ok-clause-first_faulty g c = let h = subst (λ (p : CommandIn × Lines). (bytes : List ℕ) × (c.carry.new.out ≡ bytes ++ drop (length bytes) c.args.buf.now)
    × HasCommanded g.D.Port.Port.told g.D.Port.Port.faults g.D.Port.Port.maps g.D.Port.Port.maps_left g.D.Driver.OwnEntries g.D.Driver.Follows g.D.Driver.ENTRIES (op_for p.1 p.0) c.args.actor.now p.0 c.in-Ok.answered.reply bytes c.carry.new.actor)
    (λ i. (c.command-command.ensures.told i, c.lines.ensures.lines i)) c.in-Ok.ensures.done in
    let command : CommandIn = command_in c.args.fd.now.place c.args.fd.now.fd false c.args.cmd c.args.buf.now in
    λ sets asks let_in. configures_in_order g.D.Port.Port.told g.D.Port.Port.faults g.D.Port.Port.maps g.D.Port.Port.maps_left g.D.Driver.OwnEntries g.D.Driver.Follows g.D.Driver.ENTRIES {X = Unit {0}} (λ _. tt) c.done.result (op_for c.args.fd.now.lines command) c.args.actor.now c.carry.new.actor command c.in-Ok.answered.reply h.0 h.2 c.done.ensures asks let_in.2 sets refl

pub returns-clause-first_faulty : goal.returns-clause-first_faulty
returns-clause-first_faulty g c = λ sets asks let_in. absurd (let_in.1 (ap Err c.in-Err.ensures.full.0))
