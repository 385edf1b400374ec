use Rattle.std.proofs.Common.{◌≡◌, ℕ, List, ◌++◌, length, take, drop, sym, subst, ◌∙◌, IfSome, Ok, Option}
use Rattle.gl_base.specs.Lines.{IsLineCount}
use Rattle.gl_base.specs.declared.lines.Lines.{Lines}
use Rattle.gl_uapi.specs.declared.layout.TheConstants.{LINE_REQUEST_SIZE}
use Rattle.gl_asking.specs.declared.kinds.FileKind.TheVariants.{Chip}
use Rattle.gl_asking.specs.Driving.{op_for}
use Rattle.gl_model.specs.Fits.{HoldsRequest}
use Rattle.gl_model.specs.declared.gift.Gift.{Gift}
use Rattle.gl_model.specs.declared.reply.Reply.{Reply}
use Rattle.gl_chip.specs.DriverCommands.{HasCommanded}
use Rattle.gl_chip.specs.Orders.{lines_on}
use Rattle.gl_chip.proofs.OrderedCalls.{as_ordered, number_ordered, whole_numbers, whole_ordered}
use Rattle.gl_chip.proofs.RequestedLines.{gets_line, lines_are_named, op_goes, op_is_for, op_is_requested}
use Rattle.gl_chip.proofs.gpio.Gpio.command_on_chip.Goals as goal

pub whole_command-requires-clause-not_asked : goal.whole_command-requires-clause-not_asked
whole_command-requires-clause-not_asked g c κs within = sym c.if-not-is_driver_asked.ensures

pub driven_command-requires-clause-asked : goal.driven_command-requires-clause-asked
driven_command-requires-clause-asked g c κs within = sym c.if-not-is_driver_asked.ensures

pub driven_command-requires-clause-brings : goal.driven_command-requires-clause-brings
driven_command-requires-clause-brings g c κs within = λ _. subst (λ (gift : Gift). HoldsRequest (take LINE_REQUEST_SIZE c.args.command.now.bytes) gift) (sym c.replace.ensures.value) (c.requires.brings c.requires.chip (sym c.if-not-is_driver_asked.ensures))

pub driven_command-requires-clause-op : goal.driven_command-requires-clause-op
driven_command-requires-clause-op g c κs within = op_goes c.args.command.now c.request_op-op.result (gets_line c.args.command.now c.requires.chip (sym c.if-not-is_driver_asked.ensures))
    (op_is_requested (take LINE_REQUEST_SIZE c.args.command.now.bytes) c.args.gift.now c.request_op-op.result c.request_op-op.ensures.op (c.requires.brings c.requires.chip (sym c.if-not-is_driver_asked.ensures))) c.request_op-op.ensures.fits

pub returns-in-Ok-clause-commanded : goal.returns-in-Ok-clause-commanded
returns-in-Ok-clause-commanded g c =
    subst (λ (reply : Reply). (bytes : List ℕ) × (c.whole_command.new.out ≡ bytes ++ drop (length bytes) c.args.out.now)
    × HasCommanded g.D.Port.Port.told g.D.Port.Port.faults g.D.Port.Port.maps g.D.Port.Port.maps_left g.D.Driver.OwnEntries g.D.Driver.Follows g.D.Driver.ENTRIES (op_for (lines_on Chip c.args.command.now) c.args.command.now) c.args.actor.now c.args.command.now reply bytes c.whole_command.new.actor) (sym c.without_lines.ensures.reply)
    (whole_ordered g.D.Port.Port.told g.D.Port.Port.faults g.D.Port.Port.maps g.D.Port.Port.maps_left g.D.Driver.OwnEntries g.D.Driver.Follows g.D.Driver.ENTRIES (Ok c.in-Ok.reply) (op_for (lines_on Chip c.args.command.now) c.args.command.now) c.args.actor.now c.whole_command.new.actor
    c.args.command.now c.args.out.now c.whole_command.new.out (sym c.if-not-is_driver_asked.ensures) c.whole_command.ensures.port c.in-Ok.ensures.called)

pub returns-in-Ok-driven_command-clause-commanded : goal.returns-in-Ok-driven_command-clause-commanded
returns-in-Ok-driven_command-clause-commanded g c =
    as_ordered g.D.Port.Port.told g.D.Port.Port.faults g.D.Port.Port.maps g.D.Port.Port.maps_left g.D.Driver.OwnEntries g.D.Driver.Follows g.D.Driver.ENTRIES (Ok c.in-Ok-driven_command.reply) c.request_op-op.result (op_for (lines_on Chip c.args.command.now) c.args.command.now) c.args.actor.now c.driven_command.new.actor
    c.args.command.now c.args.out.now c.driven_command.new.out
    (sym (op_is_for (lines_on Chip c.args.command.now) c.args.command.now c.request_op-op.result (gets_line c.args.command.now c.requires.chip (sym c.if-not-is_driver_asked.ensures)) (op_is_requested (take LINE_REQUEST_SIZE c.args.command.now.bytes) c.args.gift.now c.request_op-op.result c.request_op-op.ensures.op (c.requires.brings c.requires.chip (sym c.if-not-is_driver_asked.ensures)))))
    c.in-Ok-driven_command.ensures.commanded

pub returns-in-Ok-driven_command-clause-number : goal.returns-in-Ok-driven_command-clause-number
returns-in-Ok-driven_command-clause-number g c =
    number_ordered (Ok c.in-Ok-driven_command.reply) c.request_op-op.result (op_for (lines_on Chip c.args.command.now) c.args.command.now)
    (sym (op_is_for (lines_on Chip c.args.command.now) c.args.command.now c.request_op-op.result (gets_line c.args.command.now c.requires.chip (sym c.if-not-is_driver_asked.ensures)) (op_is_requested (take LINE_REQUEST_SIZE c.args.command.now.bytes) c.args.gift.now c.request_op-op.result c.request_op-op.ensures.op (c.requires.brings c.requires.chip (sym c.if-not-is_driver_asked.ensures)))))
    c.in-Ok-driven_command.ensures.number

pub returns-in-Ok-driven_command-clause-lines : goal.returns-in-Ok-driven_command-clause-lines
returns-in-Ok-driven_command-clause-lines g c = λ n e. c.lines_for.ensures.lines
    ∙ lines_are_named c.args.command.now c.request_op-op.result (op_is_requested (take LINE_REQUEST_SIZE c.args.command.now.bytes) c.args.gift.now c.request_op-op.result c.request_op-op.ensures.op (c.requires.brings c.requires.chip (sym c.if-not-is_driver_asked.ensures))) (c.in-Ok-driven_command.ensures.number n e).1

pub returns-in-Err-clause-full : goal.returns-in-Err-clause-full
returns-in-Err-clause-full g c = let h = c.in-Err.ensures.full in (h.0, h.1, c.whole_command.ensures.port, h.2)

pub returns-in-Ok-clause-counts : goal.returns-in-Ok-clause-counts
returns-in-Ok-clause-counts g c = subst (λ (lines : Option Lines). IfSome lines (λ l. IsLineCount l.count)) (sym c.without_lines.ensures.lines) tt

pub returns-in-Ok-clause-number : goal.returns-in-Ok-clause-number
returns-in-Ok-clause-number g c = λ n is. whole_numbers (Ok c.in-Ok.reply) (op_for (lines_on Chip c.args.command.now) c.args.command.now) c.args.command.now c.in-Ok.ensures.form n (sym c.without_lines.ensures.reply ∙ is)
