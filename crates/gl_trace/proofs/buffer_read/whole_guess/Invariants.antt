use Rattle.std.proofs.Common.{◌≡◌, ◌-◌, ◌++◌, length, take, drop}
use Rattle.std.specs.Prelude.{replicate}
use Rattle.gl_trace.specs.BufferRead.{guess}
use Rattle.gl_trace.proofs.buffer_read.whole_guess.Given as goal

abbrev pub invariant-loop-i : goal.invariant-loop-i
invariant-loop-i l = (length l.bytes ≡ 592) × (take l.i l.bytes ++ guess (l.count - l.i) l.zeros l.rest ≡ guess l.count 0 l.text) × (drop l.i l.bytes ≡ drop l.i (replicate 592 0))
