use Rattle.std.proofs.Common.{◌<◌, sym, subst, ◌∙◌}
use Rattle.gl_model.specs.declared.call.Call.{Call}
use Rattle.gl_model.specs.Fits.{Fits}
use Rattle.gl_chip.proofs.RemovalCalls.{acts_last, begun_still, begun_within, fits_last, has_ended, last_has_room, last_leaves_free, last_names_nothing, may_end}
use Rattle.gl_chip.proofs.gpio.Gpio.end_removal.Goals as goal

pub close_all-requires-clause-places : goal.close_all-requires-clause-places
close_all-requires-clause-places g c κs within p low high = subst (λ n. p < n) (sym c.self.invariant.0) (begun_within c.args.from c.args.count c.args.first.now c.args.pass.now.view c.requires.begun c.requires.legal p low high)

pub act-requires-clause-fits : goal.act-requires-clause-fits
act-requires-clause-fits g c κs within = subst (λ (k : Call). Fits k c.args.gift.now _) (sym c.last_call.ensures.last) (fits_last c.args.first.now c.requires.first c.requires.fits c.args.gift.now)

pub returns-clause-free : goal.returns-clause-free
returns-clause-free g c = let drained = c.close_all.ensures.drained in
    last_leaves_free c.args.from c.args.count c.args.first.now c.close_all.new.pass.view c.act.new.pass.view c.in-Ok.reply _ _ c.requires.first (begun_still c.args.from c.args.count c.args.first.now c.args.pass.now.view c.close_all.new.pass.view drained.moved c.requires.begun)
    (drained.inside ∙ c.requires.outside) c.in-Ok.ensures.same (acts_last c.close_all.new.pass.view c.act.new.pass.view c.args.first.now c.last_call.result c.in-Ok.reply _ _ c.last_call.ensures.last c.in-Ok.ensures.acts)

pub returns-clause-ended : goal.returns-clause-ended
returns-clause-ended g c = has_ended c.args.from c.args.count c.args.first.now c.args.pass.now.view c.close_all.new.pass.view c.act.new.pass.view c.in-Ok.reply _ _ c.requires.first c.requires.begun c.close_all.ensures.drained c.in-Ok.ensures.same
    (acts_last c.close_all.new.pass.view c.act.new.pass.view c.args.first.now c.last_call.result c.in-Ok.reply _ _ c.last_call.ensures.last c.in-Ok.ensures.acts)

pub act-requires-clause-named : goal.act-requires-clause-named
act-requires-clause-named g c κs within = last_names_nothing c.args.first.now c.last_call.result c.close_all.new.pass.view c.requires.first c.last_call.ensures.last

pub act-requires-clause-last : goal.act-requires-clause-last
act-requires-clause-last g c κs within = let drained = c.close_all.ensures.drained in
    may_end c.args.from c.args.count c.args.first.now c.last_call.result c.close_all.new.pass.view (begun_still c.args.from c.args.count c.args.first.now c.args.pass.now.view c.close_all.new.pass.view drained.moved c.requires.begun) drained.drained

pub unreachable-requires : goal.unreachable-requires
unreachable-requires g c = last_has_room c.args.first.now c.last_call.result c.close_all.new.pass.view c.act.new.pass.view c.requires.first c.last_call.ensures.last c.in-Err.ensures.refuses
