use Rattle.std.proofs.Common.{ℕ, ◌+◌, min, sym, ◌∙◌, ap}
use Rattle.gl_base.specs.declared.limits.TheConstants.{COST_MAX}
use Rattle.gl_script.specs.Columns.{columns}
use Rattle.gl_script.proofs.Costing.{cost_is}
use Rattle.gl_script.proofs.cost.statement_cost.Goals as goal

pub returns-in-Some : goal.returns-in-Some
returns-in-Some c = record {
  cost =
      c.min.ensures ∙ c.said_cost.ensures
      ∙ ap (λ (n : ℕ). min n (COST_MAX + 1)) (sym (cost_is (columns c.args.statement.now.line.now) c.said-said.result _ _ c.said-said.ensures.read c.in-Some.ensures.words));
}
