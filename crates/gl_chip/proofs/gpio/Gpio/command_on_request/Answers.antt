use Rattle.std.proofs.Common.{◌≡◌, Bool, true, false, Some, sym, ◌∙◌, subst}
use Rattle.std.proofs.lemmas.Bool.{true≢false}
use Rattle.gl_uapi.specs.Command.{command_of}
use Rattle.gl_model.specs.Parts.{is_driver_asked}
use Rattle.gl_asking.specs.Driving.{op_for}
use Rattle.gl_chip.proofs.Answering.{no_get_line}
use Rattle.gl_chip.proofs.GateSteps.{if_err}
use Rattle.gl_chip.proofs.OrderedCalls.{as_ordered, number_ordered, whole_numbers, whole_ordered}
use Rattle.gl_chip.proofs.gpio.Gpio.command_on_request.Goals as goal

pub whole_command-requires-clause-not_asked : goal.whole_command-requires-clause-not_asked
whole_command-requires-clause-not_asked g c κs within = subst (λ (b : Bool). is_driver_asked b c.args.command.now.len (command_of c.args.command.now.cmd) ≡ false) (sym c.requires.request) c.in-None.ensures.none

pub returns-in-None-clause-commanded : goal.returns-in-None-clause-commanded
returns-in-None-clause-commanded g c =
    whole_ordered g.D.Port.Port.told g.D.Port.Port.faults g.D.Port.Port.maps g.D.Port.Port.maps_left g.D.Driver.OwnEntries g.D.Driver.Follows g.D.Driver.ENTRIES c.whole_command.result (op_for c.args.lines.now c.args.command.now) c.args.actor.now c.whole_command.new.actor
    c.args.command.now c.args.out.now c.whole_command.new.out
    (subst (λ (b : Bool). is_driver_asked b c.args.command.now.len (command_of c.args.command.now.cmd) ≡ false) (sym c.requires.request) c.in-None.ensures.none) c.whole_command.ensures.port c.whole_command.ensures.called

pub returns-in-None-clause-number : goal.returns-in-None-clause-number
returns-in-None-clause-number g c = whole_numbers c.whole_command.result (op_for c.args.lines.now c.args.command.now) c.args.command.now c.whole_command.ensures.form

pub returns-in-None-clause-full : goal.returns-in-None-clause-full
returns-in-None-clause-full g c = if_err c.whole_command.result _ _ (λ e full. (full.0, full.1, c.whole_command.ensures.port, full.2)) c.whole_command.ensures.full

pub driven_command-requires-clause-asked : goal.driven_command-requires-clause-asked
driven_command-requires-clause-asked g c κs within = subst (λ (b : Bool). is_driver_asked b c.args.command.now.len (command_of c.args.command.now.cmd) ≡ true) (sym c.requires.request) c.in-Some.ensures.op.0

pub driven_command-requires-clause-brings : goal.driven_command-requires-clause-brings
driven_command-requires-clause-brings g c κs within = λ gets. absurd (true≢false (sym gets ∙ no_get_line c.args.command.now.len (command_of c.args.command.now.cmd) c.in-Some.ensures.op.0))

pub driven_command-requires-clause-op : goal.driven_command-requires-clause-op
driven_command-requires-clause-op g c κs within = λ w actor n e. c.in-Some.ensures.op.2

pub returns-in-Some-clause-commanded : goal.returns-in-Some-clause-commanded
returns-in-Some-clause-commanded g c =
    as_ordered g.D.Port.Port.told g.D.Port.Port.faults g.D.Port.Port.maps g.D.Port.Port.maps_left g.D.Driver.OwnEntries g.D.Driver.Follows g.D.Driver.ENTRIES c.driven_command.result (Some c.in-Some.op) (op_for c.args.lines.now c.args.command.now) c.args.actor.now c.driven_command.new.actor
    c.args.command.now c.args.out.now c.driven_command.new.out c.in-Some.ensures.op.1 c.driven_command.ensures.commanded

pub returns-in-Some-clause-number : goal.returns-in-Some-clause-number
returns-in-Some-clause-number g c = number_ordered c.driven_command.result (Some c.in-Some.op) (op_for c.args.lines.now c.args.command.now) c.in-Some.ensures.op.1 c.driven_command.ensures.number
