use Rattle.std.proofs.Common.{◌∙◌, arith}
use Rattle.gl_served.proofs.Known.{appends_next}
use Rattle.gl_served.proofs.streams.write_all.Goals as goal

pub loop-at-preserved : goal.loop-at-preserved
loop-at-preserved g c = (
  omega (arith, c.in-Ok.ensures.bound),
  appends_next _ _ _ c.args.text.now c.split_at.result.1.now c.loop-at.at c.in-Ok.count c.loop-at.invariant.1 c.in-Ok.ensures.appended c.split_at.ensures.back,
  c.in-Ok.ensures.no_fault ∙ c.loop-at.invariant.2,
)
