use Rattle.std.proofs.Common.{◌≡◌, ◌++◌, replicate}
use Rattle.gl_base.proofs.seconds.put_repeated.Given as goal

abbrev pub invariant-loop-i : goal.invariant-loop-i
invariant-loop-i l = l.out.items ≡ l.fn.out.items ++ replicate l._i l.byte
