use Rattle.std.proofs.Common.{sym, ◌∙◌}
use Rattle.gl_script.specs.Cost.{section_aggregates}
use Rattle.gl_script.specs.Meaning.{said_in}
use Rattle.gl_script.proofs.AnyLeft.{any_here, any_later, none_here}
use Rattle.gl_script.proofs.cost.has_aggregate.Goals as goal

pub returns-then-section_aggregates : goal.returns-then-section_aggregates
returns-then-section_aggregates c =
    any_here section_aggregates said_in c.args.sections.now c.loop-section.section-index _ c.loop-section.invariant c.section-item.result c.loop-section-test.true c.section-item.is (sym c.section_aggregates.ensures ∙ c.if-section_aggregates.true)

pub loop-section-preserved : goal.loop-section-preserved
loop-section-preserved c =
    any_later section_aggregates said_in c.args.sections.now c.loop-section.section-index _ c.loop-section.invariant c.section-item.result c.loop-section-test.true c.section-item.is (sym c.section_aggregates.ensures ∙ c.if-section_aggregates.false)

pub returns : goal.returns
returns c = none_here section_aggregates said_in c.args.sections.now c.loop-section.section-index _ c.loop-section.invariant c.loop-section-test.false
