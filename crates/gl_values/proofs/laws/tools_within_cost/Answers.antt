use Rattle.gl_values.proofs.ToolCosts.{tool_within, held_within, stops_within}
use Rattle.gl_values.proofs.laws.tools_within_cost.Goals as goal

pub returns-clause-statement : goal.returns-clause-statement
returns-clause-statement c = tool_within

pub returns-clause-started : goal.returns-clause-started
returns-clause-started c = held_within

pub returns-clause-stopped : goal.returns-clause-stopped
returns-clause-stopped c = stops_within
