use Rattle.std.proofs.Common.{◌≡◌}
use Rattle.gl_check.specs.Joining.{Maps}
use Rattle.gl_chip.specs.Values.{IsActorOf}
use Rattle.gl_session.specs.Ports.{AllHave}
use Rattle.gl_session.specs.Workers.{HaveMaps}
use Rattle.gl_session.proofs.Threads.{SplitSoFar}
use Rattle.gl_session.proofs.fork.split_all.Given as goal

-- so many actors were made, each with the port of its number
abbrev pub invariant-loop-n : goal.invariant-loop-n
invariant-loop-n g l = record {
  of : IsActorOf l.device l.first;
  port : l.first.port ≡ l.initial.first.port;
  split : SplitSoFar g.D.Port.Port.told l.device l.initial.first.pass.view l.initial.ports l.n l.first.pass.view l.actors.items l.ports;
  maps : (m : Maps) → AllHave g.D.Port.Port.maps g.D.Port.Port.maps_left m l.initial.ports → AllHave g.D.Port.Port.maps g.D.Port.Port.maps_left m l.ports × HaveMaps g.D.Port.Port.maps g.D.Port.Port.maps_left m l.actors.items;
}
