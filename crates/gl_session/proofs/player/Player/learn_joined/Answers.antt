use Rattle.std.proofs.Common.{◌≡◌, ◌≤◌, List, false, length, sym, subst}
use Rattle.std.specs.List.{list_any}
use Rattle.gl_driver.specs.Maps.{FitsMap}
use Rattle.gl_driver.specs.declared.map.Map.{Map}
use Rattle.gl_driver.specs.declared.map.Target.{Target}
use Rattle.gl_session.specs.Targets.{is_target_at}
use Rattle.gl_session.proofs.Joins.{fits_joined}
use Rattle.gl_session.proofs.player.Player.learn_joined.Goals as goal

pub learn-requires-clause-fits : goal.learn-requires-clause-fits
learn-requires-clause-fits g c κs within =
    let may = c.requires.may_join in
    subst (λ (map : Map). FitsMap map) (sym c.joined_at.ensures.joined)
    (fits_joined c.args.place c.in_slots-targets.result (subst (λ (l : List Target). 1 ≤ length l) (sym c.in_slots-targets.ensures) may.some) c.joined_at.ensures.few
    (subst (λ (l : List Target). list_any (is_target_at c.args.place) l ≡ false) (sym c.in_slots-targets.ensures) may.apart) c.joined_at.ensures.each)
