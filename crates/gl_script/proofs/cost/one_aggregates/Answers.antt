use Rattle.std.proofs.Common.{sym, ◌∙◌}
use Rattle.gl_script.specs.Cost.{statement_aggregates}
use Rattle.gl_script.specs.Meaning.{line_in}
use Rattle.gl_script.proofs.AnyLeft.{any_here, any_later, none_here}
use Rattle.gl_script.proofs.cost.one_aggregates.Goals as goal

pub returns-then-statement_aggregates : goal.returns-then-statement_aggregates
returns-then-statement_aggregates c =
    any_here statement_aggregates line_in c.args.statements.now c.loop-statement.statement-index _ c.loop-statement.invariant c.statement-item.result c.loop-statement-test.true c.statement-item.is (sym c.statement_aggregates.ensures ∙ c.if-statement_aggregates.true)

pub loop-statement-preserved : goal.loop-statement-preserved
loop-statement-preserved c =
    any_later statement_aggregates line_in c.args.statements.now c.loop-statement.statement-index _ c.loop-statement.invariant c.statement-item.result c.loop-statement-test.true c.statement-item.is (sym c.statement_aggregates.ensures ∙ c.if-statement_aggregates.false)

pub returns : goal.returns
returns c = none_here statement_aggregates line_in c.args.statements.now c.loop-statement.statement-index _ c.loop-statement.invariant c.loop-statement-test.false
