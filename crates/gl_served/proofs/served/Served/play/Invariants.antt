use Rattle.gl_client.specs.Program.{Program}
use Rattle.gl_talk.specs.Open.{Names}
use Rattle.gl_check.specs.One.{PlannedPort, Standing}
use Rattle.gl_served.specs.UnderWay.{IsAsBefore, IsGoing, IsSameSession}
use Rattle.gl_served.proofs.served.Served.play.Given as goal

-- the line went on so far
abbrev pub invariant-loop : goal.invariant-loop
invariant-loop l =
    IsSameSession l.fn.self l.self
    × IsAsBefore l.fn.going l.going
    × ((p : Program Names) (s : Standing PlannedPort) → IsGoing p s l.fn.going l.fn.self → IsGoing p s l.going l.self)
