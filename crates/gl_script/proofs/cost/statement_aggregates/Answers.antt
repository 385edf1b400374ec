use Rattle.std.proofs.Common.{sym, ◌∙◌, ap}
use Rattle.gl_script.specs.Cost.{is_aggregate}
use Rattle.gl_script.proofs.cost.statement_aggregates.Goals as goal

pub returns : goal.returns
returns c = c.is_aggregate.ensures ∙ ap is_aggregate (sym c.said-said.ensures.spelled.keyword)
