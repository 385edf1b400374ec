use Rattle.std.proofs.Common.{◌≡◌, drop, map}
use Rattle.gl_talk.specs.Open.{watched_of_name, monitor_in}
use Rattle.gl_talk.proofs.held.has_monitor.Given as goal

abbrev pub invariant-loop-tool : goal.invariant-loop-tool
invariant-loop-tool l = watched_of_name l.name (map monitor_in (drop l.tool-index l.tools)) ≡ watched_of_name l.name (map monitor_in l.tools)
