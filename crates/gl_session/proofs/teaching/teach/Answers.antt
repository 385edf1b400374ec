use Rattle.std.proofs.Common.{arith}
use Rattle.gl_session.proofs.Taught.{learned_one, may_learn}
use Rattle.gl_session.proofs.teaching.teach.Goals as goal

pub learn-requires-clause-new : goal.learn-requires-clause-new
learn-requires-clause-new g c =
    may_learn g.D.Port.Port.maps g.D.Port.Port.maps_left g.D.Port.Port.told g.D.Port.Port.faults c.args.maps.now c.loop-map.map-index _ (omega (arith, c.loop-map-test.true)) c.args.port.now c.loop-map.port c.loop-map.invariant
    c.requires.may_be_learned c.requires.bare

pub loop-map-preserved : goal.loop-map-preserved
loop-map-preserved g c =
    learned_one g.D.Port.Port.maps g.D.Port.Port.maps_left g.D.Port.Port.told g.D.Port.Port.faults c.args.maps.now c.loop-map.map-index _ (omega (arith, c.loop-map-test.true)) c.args.port.now c.loop-map.port c.loop-map.invariant c.learn.new.self
    c.learn.ensures.maps c.learn.ensures.maps_left c.learn.ensures.told c.learn.ensures.faults
