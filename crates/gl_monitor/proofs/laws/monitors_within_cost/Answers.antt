use Rattle.gl_monitor.proofs.MonitorCosts.{held_within, stops_within, monitor_within}
use Rattle.gl_monitor.proofs.laws.monitors_within_cost.Goals as goal

pub returns-clause-started : goal.returns-clause-started
returns-clause-started c = monitor_within

pub returns-clause-stepped : goal.returns-clause-stepped
returns-clause-stepped c = held_within

pub returns-clause-stopped : goal.returns-clause-stopped
returns-clause-stopped c = stops_within
