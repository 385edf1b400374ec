use Rattle.std.proofs.Common.{◌≤◌, refl, subst}
use Rattle.gl_base.specs.declared.limits.TheConstants.{PLACES}
use Rattle.gl_core.specs.Chosen.{is_in_removal}
use Rattle.gl_core.proofs.Removing.{all_marked, none_marked_yet}
use Rattle.gl_core.proofs.state.State.removal_places.Goals as goal

pub loop-place-init : goal.loop-place-init
loop-place-init c = (refl, c.used-place-end.ensures.within, λ w s p. none_marked_yet PLACES p (is_in_removal c.args.device.now c.args.remover w p))

pub returns : goal.returns
returns c w s p =
    all_marked c.args.device.now c.args.remover w c.loop-place.places c.loop-place.place p (subst (λ n. n ≤ c.loop-place.place) (c.used-place-end.ensures.origins w s) c.loop-place-test.false)
    (c.loop-place.invariant.2 w s p)
