use Rattle.std.proofs.Common.{◌≡◌, ◌*◌, ◌≤◌, ◌++◌, drop, length}
use Rattle.gl_base.specs.Rows.{Each}
use Rattle.gl_aggregator.specs.Routes.{FitsRoute, routes_from}
use Rattle.gl_aggregator.proofs.routes.routes_of.Given as goal

-- the routes so far, and those to the targets that are left, make the whole
abbrev pub invariant-loop-target : goal.invariant-loop-target
invariant-loop-target l = (l.found ++ routes_from l.op l.base (drop l.target-index l.targets) ≡ routes_from l.op 0 l.targets)
    × (length l.found ≤ l.target-index) × (l.base ≤ 64 * l.target-index) × Each (FitsRoute l.map.place) l.found
