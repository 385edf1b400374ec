-- The lines so far have no fault.
use Rattle.std.proofs.Common.{◌≡◌, ◌-◌}
use Rattle.gl_base.specs.Positions.{first_fault}
use Rattle.gl_attrs.specs.ConfigFault.{line_fault}
use Rattle.gl_attrs.proofs.resolving.resolve.Given as goal

abbrev pub invariant-loop-i : goal.invariant-loop-i
invariant-loop-i l = first_fault (line_fault l.config) l.i (l.lines - l.i) ≡ first_fault (line_fault l.config) 0 l.lines
