use Rattle.std.proofs.Common.{◌≡◌, drop}
use Rattle.gl_aggregator.specs.Routes.{is_visited, lines_from}
use Rattle.gl_aggregator.proofs.routes.has_lines.Given as goal

-- no line so far is the target's
abbrev pub invariant-loop-i : goal.invariant-loop-i
invariant-loop-i l = is_visited (lines_from l.op l.route.base l.route.target.lines.count l.i (drop l.i l.offsets)) ≡ is_visited (lines_from l.op l.route.base l.route.target.lines.count 0 l.offsets)
