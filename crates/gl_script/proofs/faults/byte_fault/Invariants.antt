use Rattle.std.proofs.Common.{◌≡◌, ◌+◌, drop}
use Rattle.gl_script.specs.Faults.{byte_fault}
use Rattle.gl_script.proofs.faults.byte_fault.Given as goal

abbrev pub invariant-loop-i : goal.invariant-loop-i
invariant-loop-i l = byte_fault l.at l.line ≡ byte_fault (l.at + l.i) (drop l.i l.line)
