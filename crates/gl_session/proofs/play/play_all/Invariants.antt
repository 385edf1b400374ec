use Rattle.std.proofs.Common.{◌≡◌, ◌+◌, drop, map}
use Rattle.gl_client.specs.Program.{done}
use Rattle.gl_talk.specs.Over.{columns_in}
use Rattle.gl_talk.specs.Talk.{names_in, says}
use Rattle.gl_session.specs.Performed.{PlaysOn}
use Rattle.gl_session.proofs.play.play_all.Given as goal
use Rattle.gl_check.specs.Drivers.{driver_kind}

-- the statements were carried out so far, and those that are left come after
abbrev pub invariant-loop-statement : goal.invariant-loop-statement
invariant-loop-statement g l =
    (l.player.gate ≡ l.initial.player.gate)
    × (l.talk.begun ≡ l.initial.talk.begun + l.statement-index)
    × PlaysOn (driver_kind g.D.Driver.ENTRIES g.D.Driver.is_planned g.D.Driver.OwnEntries g.D.Driver.Follows) (says l.initial.talk.begun (map columns_in l.statements) done (names_in l.initial.talk))
    l.initial.player.view l.initial.player.carried l.initial.player.text
    (says l.talk.begun (map columns_in (drop l.statement-index l.statements)) done (names_in l.talk))
    l.player.view l.player.carried l.player.text
