use Rattle.std.proofs.Common.{◌≡◌, true, ap, ◌∙◌, subst, sym}
use Rattle.gl_model.specs.declared.call.Call.{Call}
use Rattle.gl_chip.specs.Removals.{is_first_call, removal_of}
use Rattle.gl_chip.proofs.OrderedCalls.{begins_removal, knows_removed, removal_done, removal_ends, was_full_removing, whose_removal}
use Rattle.gl_chip.proofs.gpio.Gpio.order_removal.Goals as goal

pub remove_by-requires-clause-first : goal.remove_by-requires-clause-first
remove_by-requires-clause-first g c κs within = subst (λ (x : Call). is_first_call x ≡ true) (sym c.first_call.ensures.first) (begins_removal c.args.removal.now)

pub returns-clause-done : goal.returns-clause-done
returns-clause-done g c = removal_done g.D.Port.Port.told g.D.Port.Port.faults g.D.Port.Port.maps g.D.Port.Port.maps_left g.D.Driver.OwnEntries g.D.Driver.Follows g.D.Driver.ENTRIES c.remove_by.result c.args.actor.now c.remove_by.new.actor c.args.removal.now (removal_of c.first_call.result)
    (ap (λ (x : Call). removal_of x) c.first_call.ensures.first ∙ whose_removal c.args.removal.now) c.remove_by.ensures.port c.remove_by.ensures.called

pub returns-clause-places : goal.returns-clause-places
returns-clause-places g c = knows_removed c.remove_by.result c.args.actor.now.pass.view c.remove_by.new.actor.pass.view c.args.removal.now c.first_call.result c.first_call.ensures.first c.remove_by.ensures.places c.remove_by.ensures.drained

pub returns-clause-full : goal.returns-clause-full
returns-clause-full g c = was_full_removing c.remove_by.result c.args.actor.now c.remove_by.new.actor c.remove_by.ensures.port c.remove_by.ensures.full

pub returns-clause-ended : goal.returns-clause-ended
returns-clause-ended g c = removal_ends c.remove_by.result c.args.actor.now.pass.view c.remove_by.new.actor.pass.view c.args.removal.now c.first_call.result c.first_call.ensures.first
    (ap (λ (x : Call). removal_of x) c.first_call.ensures.first ∙ whose_removal c.args.removal.now) c.remove_by.ensures.ended c.remove_by.ensures.gone
