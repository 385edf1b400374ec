use Rattle.std.proofs.Common.{◌≡◌, None}
use Rattle.gl_client.specs.Program.{given}
use Rattle.gl_talk.specs.Talk.{left}
use Rattle.gl_session.specs.Performed.{PlaysOn}
use Rattle.gl_session.proofs.play.play.Given as goal
use Rattle.gl_check.specs.Drivers.{driver_kind}

-- the program was carried out so far, and what is left of it is what is left to the talk
abbrev pub invariant-loop : goal.invariant-loop
invariant-loop g l =
    (l.player.gate ≡ l.initial.player.gate)
    × (l.talk.begun ≡ l.initial.talk.begun)
    × PlaysOn (driver_kind g.D.Driver.ENTRIES g.D.Driver.is_planned g.D.Driver.OwnEntries g.D.Driver.Follows) (given (left l.initial.talk) None) l.initial.player.view l.initial.player.carried l.initial.player.text
    (given (left l.talk) l.got) l.player.view l.player.carried l.player.text
