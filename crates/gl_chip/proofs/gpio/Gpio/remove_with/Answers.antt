use Rattle.std.proofs.Common.{arith, rules, ◌≡◌, length, sym, ap, ◌∙◌}
use Rattle.std.proofs.lemmas.Bool.{true≢false}
use Rattle.gl_model.specs.Entries.{is_done}
use Rattle.gl_model.specs.declared.device_call.DeviceCall.TheVariants.{Removing}
use Rattle.gl_chip.specs.Removals.{removal_of}
use Rattle.gl_chip.proofs.GoneChips.{ended_not_gone, refused_as_gone}
use Rattle.gl_chip.proofs.RemovalCalls.{done_not_undone, first_ends_not, first_is_not_last, first_is_refused, first_needs_no_place, fits_first, full_removal, unplug_drains, has_begun, not_begun, refused_idle, refused_removal, removed_at_first, removed_whole, two_are, whole_removal}
use Rattle.gl_chip.proofs.WholeCalls.{idle_called, none_not_some}
use Rattle.gl_chip.proofs.SameActors.{knows_still, same_grown}
use Rattle.gl_chip.proofs.gpio.Gpio.remove_with.Goals as goal

pub act-requires-clause-fits : goal.act-requires-clause-fits
act-requires-clause-fits g c κs within = fits_first c.args.first.now c.requires.first c.requires.fits c.args.gift.now _ (search rules)

pub act-requires-clause-owed : goal.act-requires-clause-owed
act-requires-clause-owed g c κs within = record {
  ends = λ e. absurd (true≢false (sym e ∙ first_ends_not c.args.first.now c.requires.first));
  begins = λ _. omega (arith, c.requires.idle.free.owes_nothing);
}

pub act-requires-clause-named : goal.act-requires-clause-named
act-requires-clause-named g c κs within = let none = first_needs_no_place c.args.first.now c.requires.first in
    record { named = λ p e. absurd (none_not_some p (sym none.0 ∙ e)); refused = λ p e. absurd (none_not_some p (sym none.1 ∙ e)) }

pub act-requires-clause-last : goal.act-requires-clause-last
act-requires-clause-last g c κs within = λ e. absurd (true≢false (sym e ∙ first_is_not_last c.args.first.now c.requires.first))

pub returns-in-Err-clause-idle : goal.returns-in-Err-clause-idle
returns-in-Err-clause-idle g c = refused_idle c.args.pass.now.view c.act.new.pass.view c.args.first.now c.requires.idle c.number-number.ensures.own c.in-Err.ensures.own c.in-Err.ensures.same c.in-Err.ensures.refuses

pub returns-in-Err-clause-full : goal.returns-in-Err-clause-full
returns-in-Err-clause-full g c = (c.in-Err.ensures.full, (full_removal c.args.pass.now.view c.act.new.pass.view c.args.first.now c.number-number.ensures.own c.in-Err.ensures.own c.in-Err.ensures.same c.in-Err.ensures.refuses))

pub returns-then-not-is_done-clause-idle : goal.returns-then-not-is_done-clause-idle
returns-then-not-is_done-clause-idle g c = let h = refused_removal c.args.pass.now.view c.act.new.pass.view c.args.first.now c.in-Ok.reply _ _ c.requires.first c.number-number.ensures.own c.in-Ok.ensures.same c.in-Ok.ensures.acts (sym c.if-not-is_done.ensures) in
    idle_called 0 c.args.pass.now.view c.act.new.pass.view (Removing (removal_of c.args.first.now)) c.in-Ok.reply h.0 c.requires.idle (not_begun c.args.pass.now.view c.act.new.pass.view c.args.first.now c.in-Ok.reply _ _ c.requires.first c.in-Ok.ensures.same c.in-Ok.ensures.acts (sym c.if-not-is_done.ensures) c.requires.idle.free) h.1

pub returns-then-not-is_done-clause-called : goal.returns-then-not-is_done-clause-called
returns-then-not-is_done-clause-called g c = (refused_removal c.args.pass.now.view c.act.new.pass.view c.args.first.now c.in-Ok.reply _ _ c.requires.first c.number-number.ensures.own c.in-Ok.ensures.same c.in-Ok.ensures.acts (sym c.if-not-is_done.ensures))

pub end_removal-requires-clause-begun : goal.end_removal-requires-clause-begun
end_removal-requires-clause-begun g c κs within = let two : length c.act.new.out ≡ 2 = search rules in
    has_begun c.args.pass.now.view c.act.new.pass.view c.args.first.now c.in-Ok.reply _ c.act.new.out _ _ c.requires.first (search rules) (two_are c.act.new.out two) c.in-Ok.ensures.same c.in-Ok.ensures.acts (sym c.if-not-is_done.ensures) c.requires.idle.free

pub returns-else-not-is_done-clause-idle : goal.returns-else-not-is_done-clause-idle
returns-else-not-is_done-clause-idle g c = let two : length c.act.new.out ≡ 2 = search rules in
    let h = whole_removal c.args.pass.now.view c.act.new.pass.view c.end_removal.new.pass.view c.args.first.now c.in-Ok.reply c.end_removal.result _ c.act.new.out _ _ c.requires.first (search rules) (two_are c.act.new.out two) c.number-number.ensures.own c.in-Ok.ensures.same c.in-Ok.ensures.acts (sym c.if-not-is_done.ensures) c.end_removal.ensures.ended in
    idle_called 0 c.args.pass.now.view c.end_removal.new.pass.view (Removing (removal_of c.args.first.now)) c.end_removal.result h.0 c.requires.idle c.end_removal.ensures.free h.1

pub returns-else-not-is_done-clause-called : goal.returns-else-not-is_done-clause-called
returns-else-not-is_done-clause-called g c = let two : length c.act.new.out ≡ 2 = search rules in
    (whole_removal c.args.pass.now.view c.act.new.pass.view c.end_removal.new.pass.view c.args.first.now c.in-Ok.reply c.end_removal.result _ c.act.new.out _ _ c.requires.first (search rules) (two_are c.act.new.out two) c.number-number.ensures.own c.in-Ok.ensures.same c.in-Ok.ensures.acts (sym c.if-not-is_done.ensures) c.end_removal.ensures.ended)

pub returns-then-not-is_done-clause-drained : goal.returns-then-not-is_done-clause-drained
returns-then-not-is_done-clause-drained g c = λ d place is. absurd (true≢false (sym d ∙ sym c.if-not-is_done.ensures))

pub returns-else-not-is_done-clause-drained : goal.returns-else-not-is_done-clause-drained
returns-else-not-is_done-clause-drained g c = λ d place is. let two : length c.act.new.out ≡ 2 = search rules in
    unplug_drains c.args.pass.now.view c.act.new.pass.view c.end_removal.new.pass.view place c.args.first.now c.in-Ok.reply c.end_removal.result _ c.act.new.out _ _ is c.requires.first (search rules) (two_are c.act.new.out two) c.in-Ok.ensures.acts (sym c.if-not-is_done.ensures) c.end_removal.ensures.ended

pub returns-then-not-is_done-clause-refused : goal.returns-then-not-is_done-clause-refused
returns-then-not-is_done-clause-refused g c = first_is_refused c.args.pass.now.view c.act.new.pass.view c.args.first.now c.in-Ok.reply _ _ c.requires.first c.in-Ok.ensures.acts

pub returns-else-not-is_done-clause-refused : goal.returns-else-not-is_done-clause-refused
returns-else-not-is_done-clause-refused g c = done_not_undone c.end_removal.result c.end_removal.ensures.ended.done

pub returns-then-not-is_done-clause-gone : goal.returns-then-not-is_done-clause-gone
returns-then-not-is_done-clause-gone g c = λ place is. refused_as_gone c.args.pass.now.view c.act.new.pass.view place c.args.first.now c.in-Ok.reply _ _ is c.in-Ok.ensures.acts

pub returns-else-not-is_done-clause-gone : goal.returns-else-not-is_done-clause-gone
returns-else-not-is_done-clause-gone g c = λ place is. ended_not_gone _ _ c.act.new.pass.view c.end_removal.new.pass.view place c.args.first.now c.end_removal.result is c.end_removal.ensures.ended

pub returns-in-Err-clause-same : goal.returns-in-Err-clause-same
returns-in-Err-clause-same g c = let full = (returns-in-Err-clause-full g c).1 in same_grown c.args.pass.now.view c.act.new.pass.view _ full.grew full.knows_as_much

pub returns-then-not-is_done-clause-same : goal.returns-then-not-is_done-clause-same
returns-then-not-is_done-clause-same g c = let called = (returns-then-not-is_done-clause-called g c).1 in same_grown c.args.pass.now.view c.act.new.pass.view _ called.grew called.knows_as_much

pub returns-else-not-is_done-clause-same : goal.returns-else-not-is_done-clause-same
returns-else-not-is_done-clause-same g c = let called = (returns-else-not-is_done-clause-called g c).1 in same_grown c.args.pass.now.view c.end_removal.new.pass.view _ called.grew called.knows_as_much

pub returns-then-not-is_done-clause-ended : goal.returns-then-not-is_done-clause-ended
returns-then-not-is_done-clause-ended g c = (removed_at_first c.args.pass.now.view c.act.new.pass.view c.args.first.now c.in-Ok.reply _ _ c.requires.first c.in-Ok.ensures.acts (sym c.if-not-is_done.ensures))

pub returns-else-not-is_done-clause-ended : goal.returns-else-not-is_done-clause-ended
returns-else-not-is_done-clause-ended g c = (removed_whole c.args.pass.now.view c.act.new.pass.view c.end_removal.new.pass.view c.args.first.now c.in-Ok.reply c.end_removal.result _ c.act.new.out _ _ c.requires.first c.in-Ok.ensures.same c.in-Ok.ensures.acts (sym c.if-not-is_done.ensures) c.end_removal.ensures.ended)

pub returns-then-not-is_done-clause-places : goal.returns-then-not-is_done-clause-places
returns-then-not-is_done-clause-places g c = λ _. (knows_still c.args.pass.now.view c.act.new.pass.view c.in-Ok.ensures.same)

pub returns-else-not-is_done-clause-places : goal.returns-else-not-is_done-clause-places
returns-else-not-is_done-clause-places g c = λ undone. absurd (true≢false (sym (ap (λ r. is_done r) c.end_removal.ensures.ended.done) ∙ undone))
