use Rattle.std.proofs.Common.{◌≡◌, ◌⊎◌, ap, sym, ◌∙◌, subst}
use Rattle.std.specs.Prelude.{IfOk, IfErr, OnOk, length}
use Rattle.gl_base.specs.declared.errno.Errno.TheVariants.{NoMemory}
use Rattle.gl_script.specs.Script.{sections_of}
use Rattle.gl_check.specs.Drivers.{driver_kind}
use Rattle.gl_check.specs.Many.{actor_sections, program_of}
use Rattle.gl_session.specs.Placed.{AreMapsPlaced}
use Rattle.gl_session.specs.Player.{Playing}
use Rattle.gl_session.specs.Ports.{AllHave, maps_of}
use Rattle.gl_session.specs.Workers.{HasForked, HasForkedFull, told_at}
use Rattle.gl_session.proofs.Placing.{files_later, maps_later}
use Rattle.gl_session.proofs.several.fork.Goals as goal

pub work_beside-requires-clause-alone : goal.work_beside-requires-clause-alone
work_beside-requires-clause-alone g c κs within = (ap (λ (p : Playing). p.view.number) c.first.view_is ∙ c.requires.alone.0, ap (λ (p : Playing). p.view.made) c.first.view_is ∙ c.requires.alone.1)

pub invariant_of-first : goal.invariant_of-first
invariant_of-first g c = (
  c.work_beside.ensures.actor,
  c.first.invariant.1,
  c.first.invariant.2 ∙ ap g.D.Port.Port.maps (sym c.work_beside.ensures.port),
  files_later _ _ _ c.work_beside.ensures.grows c.first.invariant.3,
  maps_later _ _ _ c.work_beside.ensures.grows c.first.invariant.4,
)

pub work_beside-requires-clause-maps : goal.work_beside-requires-clause-maps
work_beside-requires-clause-maps g c κs within = sym c.first.invariant.2 ∙ sym c.deref.ensures.value

pub work_beside-requires-clause-placed : goal.work_beside-requires-clause-placed
work_beside-requires-clause-placed g c κs within = subst (λ maps. AreMapsPlaced c.first.inside.actor.pass.view.seen maps) (sym c.deref.ensures.value) c.first.invariant.4

pub work_beside-requires-clause-others : goal.work_beside-requires-clause-others
work_beside-requires-clause-others g c κs within = subst (λ (p : Playing). AllHave g.D.Port.Port.maps g.D.Port.Port.maps_left p.carried.maps c.args.ports.now) (sym c.first.view_is) c.requires.maps

pub returns-clause-maps : goal.returns-clause-maps
returns-clause-maps g c = ap (maps_of g.D.Port.Port.maps g.D.Port.Port.maps_left) c.work_beside.ensures.port ∙ ap (λ (p : Playing). p.carried.maps) c.first.view_is

pub returns-clause-told : goal.returns-clause-told
returns-clause-told g c = ap g.D.Port.Port.told c.work_beside.ensures.port ∙ ap (λ (p : Playing). p.carried.told) c.first.view_is

pub returns-clause-forked : goal.returns-clause-forked
returns-clause-forked g c =
    let t = g.D.Port.Port.told in
    subst (λ (p : Playing). IfOk c.work_beside.result (λ texts. HasForked t (driver_kind g.D.Driver.ENTRIES g.D.Driver.is_planned g.D.Driver.OwnEntries g.D.Driver.Follows) p.carried.maps (program_of (sections_of c.args.script.now)) (length (actor_sections (sections_of c.args.script.now)))
    p.view c.args.ports.now c.work_beside.new.first.pass.view texts.items c.work_beside.new.ports)) c.first.view_is c.work_beside.ensures.forked

pub returns-clause-stopped : goal.returns-clause-stopped
returns-clause-stopped g c =
    let t = g.D.Port.Port.told in
    subst (λ (p : Playing). IfErr c.work_beside.result (λ e. (e ≡ NoMemory) ⊎ HasForkedFull (driver_kind g.D.Driver.ENTRIES g.D.Driver.is_planned g.D.Driver.OwnEntries g.D.Driver.Follows) p.carried.maps (program_of (sections_of c.args.script.now)) (told_at t c.args.ports.now) (length (actor_sections (sections_of c.args.script.now)))
    p.view c.work_beside.new.first.pass.view)) c.first.view_is c.work_beside.ensures.stopped

pub returns-clause-ports_maps : goal.returns-clause-ports_maps
returns-clause-ports_maps g c =
    subst (λ (p : Playing). OnOk c.work_beside.result (AllHave g.D.Port.Port.maps g.D.Port.Port.maps_left p.carried.maps c.work_beside.new.ports)) c.first.view_is c.work_beside.ensures.ports_maps
