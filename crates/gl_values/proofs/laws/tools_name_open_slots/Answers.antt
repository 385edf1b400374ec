use Rattle.gl_values.proofs.ToolNames.{tool_names, held_names, stop_names}
use Rattle.gl_values.proofs.laws.tools_name_open_slots.Goals as goal

pub returns-clause-statement : goal.returns-clause-statement
returns-clause-statement c = tool_names

pub returns-clause-started : goal.returns-clause-started
returns-clause-started c = held_names

pub returns-clause-stopped : goal.returns-clause-stopped
returns-clause-stopped c = stop_names
