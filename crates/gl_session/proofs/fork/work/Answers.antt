use Rattle.std.proofs.Common.{◌≡◌, ◌⊎◌, [], sym, subst, ◌∙◌, map, Option}
use Rattle.std.specs.Prelude.{IfOk, IfErr}
use Rattle.gl_base.specs.declared.errno.Errno.TheVariants.{Full, NoMemory}
use Rattle.gl_driver.specs.Told.{Told}
use Rattle.gl_gate.specs.Values.{GateValue}
use Rattle.gl_script.specs.Script.{sections_of}
use Rattle.gl_talk.specs.Open.{no_names}
use Rattle.gl_talk.specs.Over.{columns_in}
use Rattle.gl_talk.specs.Talk.{talks}
use Rattle.gl_chip.specs.Values.{IsActorOf, OneView}
use Rattle.gl_check.specs.Drivers.{driver_kind}
use Rattle.gl_check.specs.Joining.{Maps}
use Rattle.gl_check.specs.Many.{program_of}
use Rattle.gl_check.specs.Turns.{carried}
use Rattle.gl_session.specs.Performed.{StoppedFull}
use Rattle.gl_session.specs.Ports.{maps_of}
use Rattle.gl_session.specs.Workers.{PlaysWhole}
use Rattle.gl_session.proofs.Mapped.{if_ok}
use Rattle.gl_session.proofs.Threads.{work_done}
use Rattle.gl_session.proofs.WholeSections.{program_same, statements_few}
use Rattle.gl_session.proofs.fork.work.Goals as goal

pub play_beside-text-requires-clause-few : goal.play_beside-text-requires-clause-few
play_beside-text-requires-clause-few g c κs within =
    statements_few (sections_of c.args.common.now.script.now) _ _ _ _ (c.from.ensures ∙ c.number-number.ensures.number) c.requires.section.0 c.requires.section.1 c.actor_statements-statements.ensures c.requires.few

pub returns-clause-done : goal.returns-clause-done
returns-clause-done g c =
    let t = g.D.Port.Port.told in
    let before = c.with_maps-player.ensures in
    let after = c.into_actor.ensures in
    let of : IsActorOf c.args.device.now c.into_actor.result = subst (λ (gate : GateValue). IsActorOf gate c.into_actor.result) (c.play_beside-text.ensures.device ∙ before.device) after.actor in
    let program = talks 0 (map columns_in c.actor_statements-statements.result.now) no_names in
    let maps : c.with_maps-player.result.carried.maps ≡ maps_of g.D.Port.Port.maps g.D.Port.Port.maps_left c.args.actor.port = before.maps in
    work_done t (λ _. t c.args.actor.port) c.args.device.now (driver_kind g.D.Driver.ENTRIES g.D.Driver.is_planned g.D.Driver.OwnEntries g.D.Driver.Follows) (maps_of g.D.Port.Port.maps g.D.Port.Port.maps_left c.args.actor.port) (program_of (sections_of c.args.common.now.script.now)) c.args.actor.pass.view c.args.actor.pass.view.number
    c.args.actor c.into_actor.result _ c.play_beside-text.result
    c.requires.fresh of (program_same (sections_of c.args.common.now.script.now) _ _ _ (c.from.ensures ∙ c.number-number.ensures.number) c.actor_statements-statements.ensures)
    (subst (λ (x : OneView × Option Told × OneView × Option Told × Maps). IfOk c.play_beside-text.result (λ text. PlaysWhole (driver_kind g.D.Driver.ENTRIES g.D.Driver.is_planned g.D.Driver.OwnEntries g.D.Driver.Follows) program x.4 x.0 x.1 text x.2 x.3))
    (λ i. (before.view i, before.told i, sym after.view i, sym after.port i, maps i)) c.play_beside-text.ensures.played)
    (subst (λ (x : OneView × Option Told × OneView × Maps). IfErr c.play_beside-text.result (λ e. (e ≡ NoMemory) ⊎ ((e ≡ Full) × StoppedFull (driver_kind g.D.Driver.ENTRIES g.D.Driver.is_planned g.D.Driver.OwnEntries g.D.Driver.Follows) program x.0 (carried [] x.1 x.3) x.2)))
    (λ i. (before.view i, before.told i, sym after.view i, maps i)) c.play_beside-text.ensures.stopped)

pub returns-clause-maps : goal.returns-clause-maps
returns-clause-maps g c =
    let of = maps_of g.D.Port.Port.maps g.D.Port.Port.maps_left in
    if_ok c.play_beside-text.result (λ text. c.play_beside-text.new.player.carried.maps ≡ c.with_maps-player.result.carried.maps) (λ text. of c.into_actor.result.port ≡ of c.args.actor.port)
    (λ text same. c.into_actor.ensures.maps ∙ same ∙ c.with_maps-player.ensures.maps) c.play_beside-text.ensures.maps
