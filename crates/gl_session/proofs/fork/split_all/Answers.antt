use Rattle.std.proofs.Common.{◌≡◌, ◌∙◌, Some, ap, subst, arith}
use Rattle.gl_session.specs.Ports.{maps_of}
use Rattle.gl_session.specs.Workers.{HasSplit}
use Rattle.gl_session.proofs.Mapped.{others_have, with_one}
use Rattle.gl_session.proofs.Threads.{split_goes_on}
use Rattle.gl_session.proofs.fork.split_all.Goals as goal

pub loop-n-preserved : goal.loop-n-preserved
loop-n-preserved g c = let i = c.loop-n.invariant in let more = c.in-Ok.ensures.more in let kept = g.D.Port.Port.maps in let left = g.D.Port.Port.maps_left in record {
  of = c.in-Ok.ensures.actor;
  port = c.in-Ok.ensures.port ∙ i.port;
  split = split_goes_on _ _ _ _ _ _ _ _ _ _ _ more.0 c.in-Some.port c.requires.alone.1 i.split (c.take_port.ensures.taken ∙ ap Some c.in-Some.is) c.take_port.ensures.left c.in-Ok.ensures.view more.1 more.2;
  maps = λ m all. let before = i.maps m all in (
    others_have kept left m _ _ _ c.take_port.ensures.left before.0,
    with_one kept left m _ _ more.0 more.1 before.1 (ap (maps_of kept left) more.3 ∙ before.0 _ c.in-Some.port (c.take_port.ensures.taken ∙ ap Some c.in-Some.is)),
  );
}

pub split_one-requires-clause-few : goal.split_one-requires-clause-few
split_one-requires-clause-few g c κs within = omega (arith, c.loop-n.invariant.split.split.made, c.requires.alone.1, c.requires.few, c.loop-n-test.true)

pub returns-clause-maps : goal.returns-clause-maps
returns-clause-maps g c = λ m all. (c.loop-n.invariant.maps m all).1

pub returns-clause-maps_left : goal.returns-clause-maps_left
returns-clause-maps_left g c = λ m all. (c.loop-n.invariant.maps m all).0

pub returns-clause-split : goal.returns-clause-split
returns-clause-split g c =
    let end : c.loop-n.n ≡ c.args.count = omega (arith, c.loop-n.auto.n-end, c.loop-n-test.false) in
    subst (λ count. HasSplit c.args.first.now.pass.view count c.loop-n.first.pass.view) end c.loop-n.invariant.split.split

pub returns-clause-fresh : goal.returns-clause-fresh
returns-clause-fresh g c = c.loop-n.invariant.split.fresh

pub returns-clause-others : goal.returns-clause-others
returns-clause-others g c = λ n more. c.loop-n.invariant.split.others n (omega (arith, more, c.loop-n.auto.n-end))
