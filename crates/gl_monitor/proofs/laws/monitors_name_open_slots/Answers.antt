use Rattle.gl_monitor.proofs.MonitorNames.{monitor_names, steps_names, stop_names}
use Rattle.gl_monitor.proofs.laws.monitors_name_open_slots.Goals as goal

pub returns-clause-started : goal.returns-clause-started
returns-clause-started c = monitor_names

pub returns-clause-stepped : goal.returns-clause-stepped
returns-clause-stepped c = steps_names

pub returns-clause-stopped : goal.returns-clause-stopped
returns-clause-stopped c = stop_names
