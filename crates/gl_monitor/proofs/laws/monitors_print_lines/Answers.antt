use Rattle.gl_monitor.proofs.MonitorPrints.{monitor_lines, stepped_lines, stops_lines}
use Rattle.gl_monitor.proofs.laws.monitors_print_lines.Goals as goal

pub returns-clause-started : goal.returns-clause-started
returns-clause-started c = monitor_lines

pub returns-clause-stepped : goal.returns-clause-stepped
returns-clause-stepped c = stepped_lines

pub returns-clause-stopped : goal.returns-clause-stopped
returns-clause-stopped c = stops_lines
