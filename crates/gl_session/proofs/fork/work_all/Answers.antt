use Rattle.std.proofs.Common.{◌∙◌, ap, sym, subst, ◌+◌, ◌<◌, get_or, arith, length}
use Rattle.gl_script.specs.Script.{sections_of}
use Rattle.gl_check.specs.Joining.{Maps}
use Rattle.gl_check.specs.Many.{program_of}
use Rattle.gl_session.specs.Placed.{AreMapsPlaced}
use Rattle.gl_session.specs.Workers.{IsFresh, StillHas, WorkDone}
use Rattle.gl_session.proofs.Mapped.{each_of, maps_at}
use Rattle.gl_session.proofs.Threads.{done_all, done_as, fresh_at, fresh_self, fresh_some}
use Rattle.gl_session.proofs.fork.work_all.Goals as goal
use Rattle.gl_check.specs.Drivers.{driver_kind}

pub map_all-requires-clause-fresh : goal.map_all-requires-clause-fresh
map_all-requires-clause-fresh g c κs within = λ i x l is. let f = c.requires.fresh in let ok = c.args.actors.ok in let small = c.requires.sections in
    let h : IsFresh g.D.Port.Port.told f.0 c.args.device.now f.1 (1 + i) x = subst (λ a. IsFresh g.D.Port.Port.told f.0 c.args.device.now f.1 (1 + i) a) (sym is) (fresh_at g.D.Port.Port.told f.0 c.args.device.now f.1 1 c.args.actors.items f.2 i x (omega arith)) in
    let n = h.number in (fresh_self g.D.Port.Port.told f.0 c.args.device.now f.1 (1 + i) x h, omega arith, omega arith)

pub map_all-requires-clause-maps : goal.map_all-requires-clause-maps
map_all-requires-clause-maps g c κs within = λ i x l is. let ok = c.args.actors.ok in let m = c.requires.maps in let f = c.requires.fresh in
    let h : IsFresh g.D.Port.Port.told f.0 c.args.device.now f.1 (1 + i) x = subst (λ a. IsFresh g.D.Port.Port.told f.0 c.args.device.now f.1 (1 + i) a) (sym is) (fresh_at g.D.Port.Port.told f.0 c.args.device.now f.1 1 c.args.actors.items f.2 i x (omega arith)) in (
      sym m.1 ∙ ap (λ (k : Maps). k.kept) (sym (maps_at g.D.Port.Port.maps g.D.Port.Port.maps_left m.0 c.args.actors.items m.2 i x (omega arith) is)),
      subst (λ seen. AreMapsPlaced seen c.args.common.now.maps.now) (sym h.seen_is) f.3,
    )

pub returns-in-Ok-clause-done : goal.returns-in-Ok-clause-done
returns-in-Ok-clause-done g c = λ start seen m fresh have. done_all g.D.Port.Port.told start c.args.device.now (driver_kind g.D.Driver.ENTRIES g.D.Driver.is_planned g.D.Driver.OwnEntries g.D.Driver.Follows) m _ seen 1 c.in-Ok.done.items (λ i d l.
    let ok = c.args.actors.ok in let ok' = c.in-Ok.done.ok in let len = c.in-Ok.ensures.len in let short : i < length c.args.actors.items = omega arith in
    let a = fresh_some g.D.Port.Port.told start c.args.device.now seen 1 c.args.actors.items fresh i short in
    let at = maps_at g.D.Port.Port.maps g.D.Port.Port.maps_left m c.args.actors.items have i a.0 short a.1 in
    done_as g.D.Port.Port.told start c.args.device.now (driver_kind g.D.Driver.ENTRIES g.D.Driver.is_planned g.D.Driver.OwnEntries g.D.Driver.Follows) m _ seen (1 + i) a.0 (get_or c.in-Ok.done.items i d) a.2
    (subst (λ (k : Maps). WorkDone g.D.Port.Port.told (λ _. g.D.Port.Port.told a.0.port) c.args.device.now (driver_kind g.D.Driver.ENTRIES g.D.Driver.is_planned g.D.Driver.OwnEntries g.D.Driver.Follows) k (program_of (sections_of c.args.common.now.script.now)) a.0.pass.view a.0.pass.view.number (get_or c.in-Ok.done.items i d)) at
    (c.in-Ok.ensures.done i a.0 d (omega arith) a.1)))

pub returns-in-Ok-clause-maps : goal.returns-in-Ok-clause-maps
returns-in-Ok-clause-maps g c = λ m have. let kept = g.D.Port.Port.maps in let left = g.D.Port.Port.maps_left in let f = c.requires.fresh in
    each_of (StillHas kept left m) c.in-Ok.done.items (λ i d l.
    let ok = c.args.actors.ok in let ok' = c.in-Ok.done.ok in let len = c.in-Ok.ensures.len in let short : i < length c.args.actors.items = omega arith in
    let a = fresh_some g.D.Port.Port.told f.0 c.args.device.now f.1 1 c.args.actors.items f.2 i short in
    subst (λ (k : Maps). StillHas kept left k (get_or c.in-Ok.done.items i d)) (maps_at kept left m c.args.actors.items have i a.0 short a.1) (c.in-Ok.ensures.maps i a.0 d (omega arith) a.1))
