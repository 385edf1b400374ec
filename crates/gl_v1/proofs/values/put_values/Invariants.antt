use Rattle.std.proofs.Common.{◌≡◌, ◌++◌, drop}
use Rattle.gl_v1.specs.Values.{value_bytes}
use Rattle.gl_v1.proofs.values.put_values.Given as goal

-- the bytes so far, and those that were there
abbrev pub invariant-loop-i : goal.invariant-loop-i
invariant-loop-i l = l.buf ≡ value_bytes l.bits l.lines 0 l.i ++ drop l.i l.fn.buf
