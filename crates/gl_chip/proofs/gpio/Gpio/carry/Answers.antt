use Rattle.std.proofs.Common.{ℕ, List, IfSome, Ok, Option, refl, subst, sym}
use Rattle.gl_base.specs.Lines.{IsLineCount}
use Rattle.gl_base.specs.declared.lines.Lines.{Lines}
use Rattle.gl_model.specs.declared.device_call.DeviceCall.{DeviceCall}
use Rattle.gl_model.specs.declared.reply.Reply.{Reply}
use Rattle.gl_asking.specs.Driving.{op_for}
use Rattle.gl_chip.specs.Orders.{AnswersOrder, Brings, EndsOrder, FitsOrder, HasDone, KnowsAfter, KnowsRemoved, WroteByForm, WroteTo, lines_on}
use Rattle.gl_chip.proofs.OrderedCalls.{knows_commanded}
use Rattle.gl_chip.proofs.gpio.Gpio.carry.Goals as goal

pub once-requires-clause-single : goal.once-requires-clause-single
once-requires-clause-single g c κs within = (subst (λ (x : DeviceCall). FitsOrder x c.args.order.now.on.now c.args.out.now) c.in-Once.is c.requires.fits).device.0

pub once-requires-clause-fits : goal.once-requires-clause-fits
once-requires-clause-fits g c κs within = let fits = subst (λ (x : DeviceCall). FitsOrder x c.args.order.now.on.now c.args.out.now) c.in-Once.is c.requires.fits in
    record { fits_call = fits.device.1; brings = subst (λ (x : DeviceCall). Brings x c.args.gift.now) c.in-Once.is c.requires.brings; buffer_fits = fits.buffer }

pub order_command-requires-clause-brings : goal.order_command-requires-clause-brings
order_command-requires-clause-brings g c κs within = subst (λ (x : DeviceCall). Brings x c.args.gift.now) c.in-Commanding.is c.requires.brings

pub returns-in-Ok-clause-lengths : goal.returns-in-Ok-clause-lengths
returns-in-Ok-clause-lengths g c = subst (λ (x : DeviceCall × Reply). WroteByForm x.0 c.args.out.now c.once.new.out x.1) (λ i. (sym c.in-Once.is i, sym c.without_lines.ensures.reply i)) c.in-Ok.ensures.lengths

pub returns-in-Ok-clause-ended : goal.returns-in-Ok-clause-ended
returns-in-Ok-clause-ended g c = subst (λ (x : DeviceCall). EndsOrder x c.without_lines.result.reply c.args.actor.now.pass.view c.once.new.actor.pass.view) (sym c.in-Once.is) tt

pub returns-in-Ok-clause-counts : goal.returns-in-Ok-clause-counts
returns-in-Ok-clause-counts g c = subst (λ (lines : Option Lines). IfSome lines (λ l. IsLineCount l.count)) (sym c.without_lines.ensures.lines) tt

pub returns-in-Err-clause-full : goal.returns-in-Err-clause-full
returns-in-Err-clause-full g c = let h = c.in-Err.ensures.full in (h.0, h.1, c.once.ensures.port, h.2)

pub returns-in-Ok-order_removal-clause-lengths : goal.returns-in-Ok-order_removal-clause-lengths
returns-in-Ok-order_removal-clause-lengths g c = subst (λ (x : DeviceCall). WroteByForm x c.args.out.now c.args.out.now c.without_lines-in-Ok-order_removal.result.reply) (sym c.in-Removing.is) tt

pub returns-in-Ok-order_removal-clause-ended : goal.returns-in-Ok-order_removal-clause-ended
returns-in-Ok-order_removal-clause-ended g c = subst (λ (x : DeviceCall × Reply). EndsOrder x.0 x.1 c.args.actor.now.pass.view c.order_removal.new.actor.pass.view) (λ i. (sym c.in-Removing.is i, sym c.without_lines-in-Ok-order_removal.ensures.reply i)) c.in-Ok-order_removal.ensures.ended

pub returns-in-Ok-order_removal-clause-counts : goal.returns-in-Ok-order_removal-clause-counts
returns-in-Ok-order_removal-clause-counts g c = subst (λ (lines : Option Lines). IfSome lines (λ l. IsLineCount l.count)) (sym c.without_lines-in-Ok-order_removal.ensures.lines) tt

pub returns-in-Ok-clause-done : goal.returns-in-Ok-clause-done
returns-in-Ok-clause-done g c = let h = c.in-Ok.ensures.called in
    subst (λ (x : DeviceCall × Reply). (bytes : List ℕ) × WroteTo x.0 bytes c.args.out.now c.once.new.out
    × HasDone g.D.Port.Port.told g.D.Port.Port.faults g.D.Port.Port.maps g.D.Port.Port.maps_left g.D.Driver.OwnEntries g.D.Driver.Follows g.D.Driver.ENTRIES x.0 c.args.order.now.on.now c.args.actor.now x.1 bytes c.once.new.actor) (λ i. (sym c.in-Once.is i, sym c.without_lines.ensures.reply i)) (h.0, h.1, (h.2, c.once.ensures.port))

pub returns-in-Ok-clause-form : goal.returns-in-Ok-clause-form
returns-in-Ok-clause-form g c = subst (λ (x : DeviceCall × Reply). AnswersOrder x.0 c.args.order.now.on.now x.1) (λ i. (sym c.in-Once.is i, sym c.without_lines.ensures.reply i)) c.in-Ok.ensures.form

pub returns-in-Ok-clause-places : goal.returns-in-Ok-clause-places
returns-in-Ok-clause-places g c = subst (λ (x : DeviceCall). KnowsAfter x (Ok c.without_lines.result) c.args.actor.now.pass.view c.once.new.actor.pass.view) (sym c.in-Once.is) c.once.ensures.places

pub returns-in-Ok-order_removal-clause-done : goal.returns-in-Ok-order_removal-clause-done
returns-in-Ok-order_removal-clause-done g c = let h = c.in-Ok-order_removal.ensures.done in
    subst (λ (x : DeviceCall × Reply). (bytes : List ℕ) × WroteTo x.0 bytes c.args.out.now c.args.out.now
    × HasDone g.D.Port.Port.told g.D.Port.Port.faults g.D.Port.Port.maps g.D.Port.Port.maps_left g.D.Driver.OwnEntries g.D.Driver.Follows g.D.Driver.ENTRIES x.0 c.args.order.now.on.now c.args.actor.now x.1 bytes c.order_removal.new.actor) (λ i. (sym c.in-Removing.is i, sym c.without_lines-in-Ok-order_removal.ensures.reply i)) (h.0, refl, h.1)

pub returns-in-Ok-order_removal-clause-form : goal.returns-in-Ok-order_removal-clause-form
returns-in-Ok-order_removal-clause-form g c = subst (λ (x : DeviceCall × Reply). AnswersOrder x.0 c.args.order.now.on.now x.1) (λ i. (sym c.in-Removing.is i, sym c.without_lines-in-Ok-order_removal.ensures.reply i)) c.in-Ok-order_removal.ensures.form

pub returns-in-Ok-order_removal-clause-places : goal.returns-in-Ok-order_removal-clause-places
returns-in-Ok-order_removal-clause-places g c =
    subst (λ (x : DeviceCall). KnowsAfter x (Ok c.without_lines-in-Ok-order_removal.result) c.args.actor.now.pass.view c.order_removal.new.actor.pass.view) (sym c.in-Removing.is)
    (subst (λ (reply : Reply). KnowsRemoved c.in-Removing.removal reply c.args.actor.now.pass.view c.order_removal.new.actor.pass.view) (sym c.without_lines-in-Ok-order_removal.ensures.reply) c.in-Ok-order_removal.ensures.places)

pub returns-in-Commanding-clause-places : goal.returns-in-Commanding-clause-places
returns-in-Commanding-clause-places g c = subst (λ (x : DeviceCall). KnowsAfter x c.order_command.result c.args.actor.now.pass.view c.order_command.new.actor.pass.view) (sym c.in-Commanding.is)
    (knows_commanded g.D.Port.Port.told g.D.Port.Port.faults g.D.Port.Port.maps g.D.Port.Port.maps_left g.D.Driver.OwnEntries g.D.Driver.Follows g.D.Driver.ENTRIES c.order_command.result (op_for (lines_on c.args.order.now.on.now c.in-Commanding.command) c.in-Commanding.command) c.args.actor.now c.order_command.new.actor c.in-Commanding.command c.args.out.now c.order_command.new.out c.order_command.ensures.commanded)
