use Rattle.std.proofs.Common.{◌≡◌, drop}
use Rattle.gl_lines.specs.Bytes.{with_values}
use Rattle.gl_lines.proofs.bytes.values_of.Given as goal

abbrev pub invariant-loop-i : goal.invariant-loop-i
invariant-loop-i l = with_values l.bits l.i (drop l.i l.lines) ≡ with_values 0 0 l.lines
