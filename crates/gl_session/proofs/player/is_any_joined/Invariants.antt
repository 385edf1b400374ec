use Rattle.std.proofs.Common.{◌≡◌, drop}
use Rattle.std.specs.List.{list_any}
use Rattle.gl_check.specs.Joining.{is_joined}
use Rattle.gl_session.proofs.player.is_any_joined.Given as goal

-- whether one is among those that are left tells whether one is among all
abbrev pub invariant-loop-target : goal.invariant-loop-target
invariant-loop-target g l = list_any (is_joined (g.D.Port.Port.maps l.actor.port)) (drop l.target-index l.targets) ≡ list_any (is_joined (g.D.Port.Port.maps l.actor.port)) l.targets
