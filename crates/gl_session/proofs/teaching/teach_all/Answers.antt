use Rattle.std.proofs.Common.{◌∙◌, arith}
use Rattle.gl_session.proofs.Taught.{taught_one_more}
use Rattle.gl_session.proofs.teaching.teach_all.Goals as goal

pub loop-n-preserved : goal.loop-n-preserved
loop-n-preserved g c = let i = c.loop-n.invariant in (
  taught_one_more g.D.Port.Port.maps g.D.Port.Port.maps_left g.D.Port.Port.told g.D.Port.Port.faults c.args.maps.now c.loop-n.n c.args.ports.now c.loop-n.ports c.teach_at.new.ports i.0 i.1 c.teach_at.ensures.taught c.teach_at.ensures.others,
  λ k behind. c.teach_at.ensures.others k (λ same. absurd (omega (arith, same, behind))) ∙ i.1 k (omega (arith, behind)),
  c.teach_at.ensures.ports_len ∙ i.2,
)
