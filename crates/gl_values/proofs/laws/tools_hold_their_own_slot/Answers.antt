use Rattle.gl_values.proofs.ToolSlots.{held_slots, stopped_slots}
use Rattle.gl_values.proofs.laws.tools_hold_their_own_slot.Goals as goal

pub returns-clause-started : goal.returns-clause-started
returns-clause-started c = held_slots

pub returns-clause-stopped : goal.returns-clause-stopped
returns-clause-stopped c = stopped_slots
