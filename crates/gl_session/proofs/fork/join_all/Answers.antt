use Rattle.std.proofs.Common.{◌∙◌, ◌≡◌, ◌<◌, ◌+◌, Some, ap, length, set, subst, arith}
use Rattle.gl_gate.proofs.Grown.{begins_further}
use Rattle.gl_session.specs.Workers.{AreDone}
use Rattle.gl_session.proofs.Mapped.{joined_have}
use Rattle.gl_session.proofs.Threads.{done_has, done_last, join_goes_on}
use Rattle.gl_session.proofs.fork.join_all.Goals as goal
use Rattle.gl_check.specs.Drivers.{driver_kind}

pub join_one-requires-clause-other : goal.join_one-requires-clause-other
join_one-requires-clause-other g c κs within = λ had.
    let d = c.requires.done in
    let k = c.loop-done.invariant.joined.kept d.0 d.1 d.2 d.3 d.4 in
    let last = done_last g.D.Port.Port.told d.0 c.args.device.now (driver_kind g.D.Driver.ENTRIES g.D.Driver.is_planned g.D.Driver.OwnEntries g.D.Driver.Follows) d.1 d.2 d.3 1 c.pop.new.self.items c.in-Some.done
    (subst (λ l. AreDone g.D.Port.Port.told d.0 c.args.device.now (driver_kind g.D.Driver.ENTRIES g.D.Driver.is_planned g.D.Driver.OwnEntries g.D.Driver.Follows) d.1 d.2 d.3 1 l) c.in-Some.ensures.items k.0) in
    let p = done_has g.D.Port.Port.told d.0 c.args.device.now (driver_kind g.D.Driver.ENTRIES g.D.Driver.is_planned g.D.Driver.OwnEntries g.D.Driver.Follows) d.1 d.2 d.3 (1 + length c.pop.new.self.items) c.in-Some.done had last.1 in
    let n = p.number in (p.of, λ z. absurd (omega arith))

pub loop-done-preserved : goal.loop-done-preserved
loop-done-preserved g c =
    let d = c.requires.done in
    let i = c.loop-done.invariant in
    let j = c.in-Ok.ensures.joined in
    let t = c.in-Ok.ensures.text in
    let number : c.len-n.result + 1 ≡ length c.pop.new.self.items + 1 = (let ok = c.pop.new.self.ok in let e = c.len-n.ensures in omega arith) in
    let room : length c.args.all.items < length c.args.ports.now = (let ok = c.args.all.ok in let e = c.requires.ports in omega arith) in record {
      of = c.in-Ok.ensures.actor;
      port = c.in-Ok.ensures.port ∙ i.port;
      joined = join_goes_on g.D.Port.Port.told c.args.device.now (driver_kind g.D.Driver.ENTRIES g.D.Driver.is_planned g.D.Driver.OwnEntries g.D.Driver.Follows) c.args.first.now.pass.view c.loop-done.first.pass.view c.join_one.new.first.pass.view c.args.all.items c.loop-done.all.items c.pop.new.self.items c.in-Some.done
          c.args.ports.now c.loop-done.ports c.join_one.new.ports c.loop-done.texts.items c.join_one.new.texts.items d.0 d.1 d.2 d.3 d.4 room i.joined c.in-Some.ensures.items j.0 j.1 j.2 t.0 t.1
          (c.in-Ok.ensures.ports ∙ ap (λ k. set c.loop-done.ports k (Some c.in-Some.done.0.port)) number);
      maps = λ m have each. joined_have g.D.Port.Port.maps g.D.Port.Port.maps_left m c.loop-done.all.items c.pop.new.self.items c.in-Some.done c.loop-done.ports c.join_one.new.ports c.loop-done.texts.items c.join_one.new.texts.items _
          c.in-Some.ensures.items c.in-Ok.ensures.ports t.1 (i.maps m have each);
    }

pub returns-in-Err-clause-grows : goal.returns-in-Err-clause-grows
returns-in-Err-clause-grows g c = begins_further _ _ _ c.join_one.ensures.grows c.loop-done.invariant.joined.joined.seen

pub returns-clause-maps : goal.returns-clause-maps
returns-clause-maps g c = λ m have each. (c.loop-done.invariant.maps m have each).1
