use Rattle.std.proofs.Common.{◌≡◌, ℕ, List, ◌++◌, length, drop, ap, ◌∙◌, subst, sym, IfOk, IfSome, Ok, Option}
use Rattle.gl_base.specs.Lines.{IsLineCount}
use Rattle.gl_base.specs.declared.lines.Lines.{Lines}
use Rattle.gl_asking.specs.declared.kinds.FileKind.{FileKind}
use Rattle.gl_asking.specs.Rows.{HasLines, is_chip}
use Rattle.gl_asking.specs.Driving.{op_for}
use Rattle.gl_model.specs.declared.reply.Reply.{Reply}
use Rattle.gl_chip.specs.DriverCommands.{HasCommanded}
use Rattle.gl_chip.specs.Orders.{GivesOn, lines_on}
use Rattle.gl_chip.proofs.OrderedCalls.{as_answered, as_ordered, number_as, number_ordered}
use Rattle.gl_chip.proofs.gpio.Gpio.order_command.Goals as goal

pub command_on_chip-requires-clause-chip : goal.command_on_chip-requires-clause-chip
command_on_chip-requires-clause-chip g c κs within = c.requires.file.0 ∙ ap (λ (k : FileKind). is_chip k) c.in-Chip.is

pub command_on_request-requires-clause-request : goal.command_on_request-requires-clause-request
command_on_request-requires-clause-request g c κs within = c.requires.file.0 ∙ ap (λ (k : FileKind). is_chip k) c.in-Request.is

pub command_on_request-requires-clause-count : goal.command_on_request-requires-clause-count
command_on_request-requires-clause-count g c κs within = subst (λ (k : FileKind). HasLines k) c.in-Request.is c.requires.file.1

pub returns-in-Chip-clause-commanded : goal.returns-in-Chip-clause-commanded
returns-in-Chip-clause-commanded g c =
    as_answered g.D.Port.Port.told g.D.Port.Port.faults g.D.Port.Port.maps g.D.Port.Port.maps_left g.D.Driver.OwnEntries g.D.Driver.Follows g.D.Driver.ENTRIES c.command_on_chip.result _ (op_for (lines_on c.args.order.now.on.now c.args.order.now.command.now) c.args.order.now.command.now) c.args.actor.now c.command_on_chip.new.actor
    c.args.order.now.command.now c.args.out.now c.command_on_chip.new.out (ap (λ (k : FileKind). op_for (lines_on k c.args.order.now.command.now) c.args.order.now.command.now) c.in-Chip.is) c.command_on_chip.ensures.commanded

pub returns-in-Chip-clause-number : goal.returns-in-Chip-clause-number
returns-in-Chip-clause-number g c =
    number_as c.command_on_chip.result _ (op_for (lines_on c.args.order.now.on.now c.args.order.now.command.now) c.args.order.now.command.now) (ap (λ (k : FileKind). op_for (lines_on k c.args.order.now.command.now) c.args.order.now.command.now) c.in-Chip.is) c.command_on_chip.ensures.number

pub returns-in-Chip-clause-lines : goal.returns-in-Chip-clause-lines
returns-in-Chip-clause-lines g c = subst (λ (k : FileKind). IfOk c.command_on_chip.result (GivesOn k c.args.order.now.command.now)) (sym c.in-Chip.is) c.command_on_chip.ensures.lines

pub returns-in-Ok-clause-commanded : goal.returns-in-Ok-clause-commanded
returns-in-Ok-clause-commanded g c =
    subst (λ (reply : Reply). (bytes : List ℕ) × (c.command_on_request.new.out ≡ bytes ++ drop (length bytes) c.args.out.now)
    × HasCommanded g.D.Port.Port.told g.D.Port.Port.faults g.D.Port.Port.maps g.D.Port.Port.maps_left g.D.Driver.OwnEntries g.D.Driver.Follows g.D.Driver.ENTRIES (op_for (lines_on c.args.order.now.on.now c.args.order.now.command.now) c.args.order.now.command.now) c.args.actor.now c.args.order.now.command.now reply bytes c.command_on_request.new.actor) (sym c.without_lines.ensures.reply)
    (as_ordered g.D.Port.Port.told g.D.Port.Port.faults g.D.Port.Port.maps g.D.Port.Port.maps_left g.D.Driver.OwnEntries g.D.Driver.Follows g.D.Driver.ENTRIES (Ok c.in-Ok.reply) (op_for c.in-Request.lines c.args.order.now.command.now) (op_for (lines_on c.args.order.now.on.now c.args.order.now.command.now) c.args.order.now.command.now) c.args.actor.now c.command_on_request.new.actor
    c.args.order.now.command.now c.args.out.now c.command_on_request.new.out (ap (λ (k : FileKind). op_for (lines_on k c.args.order.now.command.now) c.args.order.now.command.now) c.in-Request.is) c.in-Ok.ensures.commanded)

pub returns-in-Ok-clause-counts : goal.returns-in-Ok-clause-counts
returns-in-Ok-clause-counts g c = subst (λ (lines : Option Lines). IfSome lines (λ l. IsLineCount l.count)) (sym c.without_lines.ensures.lines) tt

pub returns-in-Ok-clause-number : goal.returns-in-Ok-clause-number
returns-in-Ok-clause-number g c = λ n is.
    number_ordered (Ok c.in-Ok.reply) (op_for c.in-Request.lines c.args.order.now.command.now) (op_for (lines_on c.args.order.now.on.now c.args.order.now.command.now) c.args.order.now.command.now)
    (ap (λ (k : FileKind). op_for (lines_on k c.args.order.now.command.now) c.args.order.now.command.now) c.in-Request.is) c.in-Ok.ensures.number n (sym c.without_lines.ensures.reply ∙ is)
