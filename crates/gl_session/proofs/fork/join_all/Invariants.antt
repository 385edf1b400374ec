use Rattle.std.proofs.Common.{◌≡◌, ℕ, List, length, map, Ok}
use Rattle.gl_base.specs.Rows.{Each}
use Rattle.gl_chip.specs.Values.{IsActorOf}
use Rattle.gl_check.specs.Joining.{Maps}
use Rattle.gl_session.specs.Ports.{AllHave}
use Rattle.gl_session.specs.Workers.{StillHas}
use Rattle.gl_session.proofs.Threads.{JoinedSoFar}
use Rattle.gl_session.proofs.fork.join_all.Given as goal
use Rattle.gl_check.specs.Drivers.{driver_kind}

-- the last actors were taken in; the others stand before them
abbrev pub invariant-loop-done : goal.invariant-loop-done
invariant-loop-done g l = record {
  of : IsActorOf l.device l.first;
  port : l.first.port ≡ l.initial.first.port;
  joined : JoinedSoFar g.D.Port.Port.told l.device (driver_kind g.D.Driver.ENTRIES g.D.Driver.is_planned g.D.Driver.OwnEntries g.D.Driver.Follows) l.initial.first.pass.view l.initial.all.items l.initial.ports l.first.pass.view l.all.items l.texts.items l.ports;
  maps : (m : Maps) → AllHave g.D.Port.Port.maps g.D.Port.Port.maps_left m l.initial.ports → Each (StillHas g.D.Port.Port.maps g.D.Port.Port.maps_left m) l.initial.all.items
      → Each (StillHas g.D.Port.Port.maps g.D.Port.Port.maps_left m) l.all.items × ((printed : List (List ℕ)) → l.texts.items ≡ map Ok printed → AllHave g.D.Port.Port.maps g.D.Port.Port.maps_left m l.ports);
}

abbrev pub decreases-loop-done : goal.decreases-loop-done
decreases-loop-done g l = length l.all.items
