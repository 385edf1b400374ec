use Rattle.std.proofs.Common.{◌≡◌, ◌+◌, drop}
use Rattle.gl_v1.specs.Values.{bits_from}
use Rattle.gl_v1.proofs.values.bits_of.Given as goal

-- the bits so far, and those of what is left, are all bits
abbrev pub invariant-loop-i : goal.invariant-loop-i
invariant-loop-i l = l.bits + bits_from l.i (drop l.i l.bytes) ≡ bits_from 0 l.bytes
