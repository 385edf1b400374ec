use Rattle.std.proofs.Common.{◌≡◌, ◌-◌}
use Rattle.gl_base.specs.Positions.{first_fault}
use Rattle.gl_desc.specs.Desc.{line_fault}
use Rattle.gl_desc.proofs.descs.first_faulty.Given as goal

-- the lines so far have no fault
abbrev pub invariant-loop-i : goal.invariant-loop-i
invariant-loop-i l =
    first_fault (line_fault l.descs l.lines.offsets) l.i (l.lines.count - l.i) ≡ first_fault (line_fault l.descs l.lines.offsets) 0 l.lines.count
