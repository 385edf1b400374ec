use Rattle.std.proofs.Common.{List, ap, ◌∙◌}
use Rattle.std.specs.List.{list_any}
use Rattle.gl_driver.specs.declared.map.Target.{Target}
use Rattle.gl_check.specs.Joining.{is_joined}
use Rattle.gl_session.specs.Player.{Playing}
use Rattle.gl_session.proofs.player.Player.is_one_joined.Goals as goal

pub returns : goal.returns
returns g c =
    c.is_any_joined.ensures ∙ ap (λ (p : Playing). list_any (is_joined p.carried.maps.kept) c.as_slice.result.now) c.self.view_is
    ∙ ap (λ (l : List Target). list_any (is_joined c.args.self.now.carried.maps.kept) l) c.as_slice.ensures
