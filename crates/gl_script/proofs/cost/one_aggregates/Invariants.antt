use Rattle.std.proofs.Common.{◌≡◌, drop, map}
use Rattle.std.specs.List.{list_any}
use Rattle.gl_script.specs.Cost.{statement_aggregates}
use Rattle.gl_script.specs.Meaning.{line_in}
use Rattle.gl_script.proofs.cost.one_aggregates.Given as goal

abbrev pub invariant-loop-statement : goal.invariant-loop-statement
invariant-loop-statement l = list_any statement_aggregates (map line_in (drop l.statement-index l.statements)) ≡ list_any statement_aggregates (map line_in l.statements)
