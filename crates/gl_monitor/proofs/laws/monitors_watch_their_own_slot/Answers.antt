use Rattle.gl_monitor.proofs.MonitorSlots.{monitor_slots, stepped_slots, stopped_slots}
use Rattle.gl_monitor.proofs.laws.monitors_watch_their_own_slot.Goals as goal

pub returns-clause-started : goal.returns-clause-started
returns-clause-started c = monitor_slots

pub returns-clause-stepped : goal.returns-clause-stepped
returns-clause-stepped c = stepped_slots

pub returns-clause-stopped : goal.returns-clause-stopped
returns-clause-stopped c = stopped_slots
