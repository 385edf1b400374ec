-- the lines so far have no fault
use Rattle.std.proofs.Common.{◌≡◌, ◌-◌}
use Rattle.gl_base.specs.Positions.{first_fault}
use Rattle.gl_model.specs.Claiming.{line_refusal}
use Rattle.gl_core.proofs.claiming.first_refusal.Given as goal

abbrev pub invariant-loop-i : goal.invariant-loop-i
invariant-loop-i l = first_fault (line_refusal l.tables l.asked) l.i (l.asked.lines.count - l.i) ≡ first_fault (line_refusal l.tables l.asked) 0 l.asked.lines.count
