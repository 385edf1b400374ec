use Rattle.std.proofs.Common.{◌≡◌, ◌+◌, drop, length}
use Rattle.gl_client.specs.Program.{done}
use Rattle.gl_script.specs.Script.{sections_of}
use Rattle.gl_talk.specs.Talk.{names_in, says}
use Rattle.gl_check.specs.Drivers.{driver_kind}
use Rattle.gl_check.specs.One.{said_in_kind}
use Rattle.gl_session.specs.OneActor.{count_in_kind}
use Rattle.gl_session.specs.Performed.{PlaysOn}
use Rattle.gl_session.proofs.one_actor.play_kind.Given as goal

-- the sections were carried out so far, and those that are left come after
abbrev pub invariant-loop-section : goal.invariant-loop-section
invariant-loop-section g l =
    (l.player.gate ≡ l.initial.player.gate)
    × (l.section-end ≡ length (sections_of l.script))
    × (l.talk.begun + count_in_kind l.kind (drop l.section (sections_of l.script)) ≡ l.initial.talk.begun + count_in_kind l.kind (sections_of l.script))
    × PlaysOn (driver_kind g.D.Driver.ENTRIES g.D.Driver.is_planned g.D.Driver.OwnEntries g.D.Driver.Follows) (says l.initial.talk.begun (said_in_kind l.kind (sections_of l.script)) done (names_in l.initial.talk))
    l.initial.player.view l.initial.player.carried l.initial.player.text
    (says l.talk.begun (said_in_kind l.kind (drop l.section (sections_of l.script))) done (names_in l.talk))
    l.player.view l.player.carried l.player.text
