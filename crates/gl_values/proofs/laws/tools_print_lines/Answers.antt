use Rattle.gl_values.proofs.ToolPrints.{tool_lines, held_lines, stops_lines}
use Rattle.gl_values.proofs.laws.tools_print_lines.Goals as goal

pub returns-clause-statement : goal.returns-clause-statement
returns-clause-statement c = tool_lines

pub returns-clause-started : goal.returns-clause-started
returns-clause-started c = held_lines

pub returns-clause-stopped : goal.returns-clause-stopped
returns-clause-stopped c = stops_lines
