use Rattle.std.proofs.Common.{◌∙◌, sym}
use Rattle.gl_uapi.proofs.Periods.{first_period-more}
use Rattle.gl_uapi.proofs.line_infos.InfoRef.period.Goals as goal

pub loop-i-preserved : goal.loop-i-preserved
loop-i-preserved c =
    sym (first_period-more c.self.inside.bytes.now c.loop-i.i c.min-count.result c.loop-i-test.true
    (λ is. c.if-u32_at-eq-ATTRIBUTE_DEBOUNCE.false (c.u32_at-in-loop-i.ensures ∙ is)))
    ∙ c.loop-i.invariant
